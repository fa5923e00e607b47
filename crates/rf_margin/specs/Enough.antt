-- When no answer is spent.
use Rattle.std.specs.Prelude.{ℕ, ◌+◌, ◌≤◌, List, Option, length}
use Rattle.rf_log.specs.declared.line.LogLine.{LogLine}
use Rattle.rf_search.specs.Laws.{ways_below}
use Rattle.rf_show.specs.Show.{ShowData}
use Rattle.rf_show.specs.Case.{case_of}
use Rattle.rf_margin.specs.Answers.{IsWidened}
use Rattle.rf_margin.specs.declared.answer.Widest.TheVariants.{Spent}

-- a budget of at least the product of the numbers of allowed channels of the show as it is, minus 1
abbrev pub EnoughIsNotSpent : Type 0
EnoughIsNotSpent = (show : ShowData) (n extra : ℕ) (log : List LogLine) (below : Option (ℕ × List ℕ)) (above : Option (ℕ × List LogLine))
    → ways_below (case_of show) (length (case_of show).carriers) ≤ n + 1 → ¬ IsWidened show n (Spent extra log below above)
