-- How much wider the spacings and margins of a show can be.
use Rattle.std.specs.Prelude.{◌≡◌, ℕ, ◌+◌, ◌<◌, ◌≤◌, List, Option, Some, None}
use Rattle.rf_log.specs.Case.{IsPlan}
use Rattle.rf_log.specs.Solved.{refuted, spent}
use Rattle.rf_log.specs.declared.line.LogLine.{LogLine}
use Rattle.rf_show.specs.Case.{case_of}
use Rattle.rf_show.specs.Raised.{raised}
use Rattle.rf_show.specs.Show.{ShowData}
use Rattle.rf_solving.specs.Solving.{IsSolvedBy}
use Rattle.rf_margin.specs.Brackets.{IsBracket, high_of, middle}
use Rattle.rf_margin.specs.declared.answer.Widest.{Widest}
use Rattle.rf_margin.specs.declared.answer.Widest.TheVariants.{Greatest, Most, Refuted, Spent}

-- a refutation of the show at the upper end, where that is at most 1,000
abbrev pub IsAbove : ShowData → ℕ → Option (ℕ × List LogLine) → Type 0
IsAbove show n None = Unit {0}
IsAbove show n (Some above) = (above.0 ≤ 1000) × IsSolvedBy (raised show above.0) n refuted above.1

-- the budget was used up at the middle of a bracket: a plan below it, a refutation above it
pub record IsStuck (show : ShowData) (n extra : ℕ) (log : List LogLine) (below : ℕ × List ℕ) (above : Option (ℕ × List LogLine)) : Type 0 where
  pub bracket : IsBracket below.0 (high_of above)
  pub room : below.0 + 2 ≤ high_of above
  pub at : extra ≡ middle below.0 (high_of above)
  pub plan : IsPlan (case_of (raised show below.0)) below.1
  pub top : IsAbove show n above
  pub used_up : IsSolvedBy (raised show extra) n spent log

-- the budget was used up at the show as it is, or at the middle of a bracket
abbrev pub IsSpentAt : ShowData → ℕ → ℕ → List LogLine → Option (ℕ × List ℕ) → Option (ℕ × List LogLine) → Type 0
IsSpentAt show n extra log None None = (extra ≡ 0) × IsSolvedBy show n spent log
IsSpentAt show n extra log None (Some above) = ⊥
IsSpentAt show n extra log (Some below) above = IsStuck show n extra log below above

-- what may be answered with this budget
abbrev pub IsWidened : ShowData → ℕ → Widest → Type 0
IsWidened show n (Greatest extra plan log) = (extra ≤ 999) × IsPlan (case_of (raised show extra)) plan
    × IsSolvedBy (raised show (extra + 1)) n refuted log
IsWidened show n (Most plan) = IsPlan (case_of (raised show 1000)) plan
IsWidened show n (Refuted log) = IsSolvedBy show n refuted log
IsWidened show n (Spent extra log below above) = IsSpentAt show n extra log below above

-- no show that is wider than by the greatest number has a plan
abbrev pub NothingWiderHasAPlan : Type 0
NothingWiderHasAPlan = (show : ShowData) (n extra : ℕ) (plan : List ℕ) (log : List LogLine) → IsWidened show n (Greatest extra plan log)
    → (more : ℕ) (other : List ℕ) → extra < more → ¬ IsPlan (case_of (raised show more)) other
