-- When no answer is spent.
use Rattle.std.specs.Prelude.{ℕ, ◌+◌, ◌≤◌, false, List, Option, length}
use Rattle.rf_log.specs.declared.line.LogLine.{LogLine}
use Rattle.rf_search.specs.Laws.{ways_below}
use Rattle.rf_show.specs.Show.{ShowData}
use Rattle.rf_show.specs.Case.{case_of}
use Rattle.rf_tighter.specs.Locked.{locked_to}
use Rattle.rf_core.specs.Answers.{IsBlocked}
use Rattle.rf_core.specs.declared.answer.Blocked.TheVariants.{Spent}

-- the show without locks
abbrev pub unlocked : ShowData → ShowData
unlocked show = locked_to show (λ c. false)

-- the product, over all carriers, of the numbers of channels that are allowed when nothing is locked
abbrev pub ways_unlocked : ShowData → ℕ
ways_unlocked show = ways_below (case_of (unlocked show)) (length show.carriers)

-- a budget of at least this product, minus 1, is never used up
abbrev pub EnoughIsNotSpent : Type 0
EnoughIsNotSpent = (show : ShowData) (n : ℕ) (keep : List ℕ) (log : List LogLine) (dropped : Option (ℕ × List LogLine)) → ways_unlocked show ≤ n + 1
    → ¬ IsBlocked show n (Spent keep log dropped)
