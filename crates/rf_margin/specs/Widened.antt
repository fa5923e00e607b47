-- The reply to `widen N`.
use Rattle.std.specs.Prelude.{◌≡◌, ℕ, ◌+◌, ◌≤◌, ◌++◌, ◌⊎◌, List, [], codes}
use Rattle.rf_log.specs.Case.{IsPlan}
use Rattle.rf_log.specs.Solved.{refuted, spent}
use Rattle.rf_log.specs.declared.line.LogLine.{LogLine}
use Rattle.rf_show.specs.Case.{case_of}
use Rattle.rf_show.specs.Raised.{raised}
use Rattle.rf_show.specs.Show.{ShowData}
use Rattle.rf_solving.specs.Solving.{IsSolvedBy, log_text}
use Rattle.rf_decide.specs.Texts.{number_line, plan_text}
use Rattle.rf_margin.specs.Brackets.{IsBracket, middle}

-- `margin D`, and the lines of a plan
abbrev pub margin_text : ShowData → ℕ → List ℕ → List ℕ
margin_text show extra plan = number_line (codes "margin") extra ++ plan_text show plan

-- `log E`, a log, and `refuted`
abbrev pub refuted_text : ShowData → ℕ → List LogLine → List ℕ
refuted_text show extra log = number_line (codes "log") extra ++ (log_text show log ++ codes "refuted\n")

-- `log E`, a log, and `spent N`
abbrev pub spent_text : ShowData → ℕ → List LogLine → ℕ → List ℕ
spent_text show extra log n = number_line (codes "log") extra ++ (log_text show log ++ number_line (codes "spent") n)

-- what is written of the upper end of a bracket: where it is at most 1,000, the refutation of the show raised by it
abbrev pub IsTop : ShowData → ℕ → ℕ → List ℕ → Type 0
IsTop show n high text = ((high ≡ 1001) × (text ≡ []))
    ⊎ ((high ≤ 1000) × ((log : List LogLine) × IsSolvedBy (raised show high) n refuted log × (text ≡ refuted_text (raised show high) high log)))

-- What `widen N` may be answered: one of five texts.
pub data Widened (show : ShowData) (n : ℕ) (text : List ℕ) : Type 0 where
  -- a plan of the show raised by D, and the refutation of the show raised by D + 1
  greatest : (extra : ℕ) (plan : List ℕ) (log : List LogLine) → extra ≤ 999
      → IsPlan (case_of (raised show extra)) plan → IsSolvedBy (raised show (extra + 1)) n refuted log
      → text ≡ margin_text (raised show extra) extra plan ++ refuted_text (raised show (extra + 1)) (extra + 1) log
      → Widened show n text
  -- a plan of the show raised by 1,000
  most : (plan : List ℕ) → IsPlan (case_of (raised show 1000)) plan
      → text ≡ margin_text (raised show 1000) 1000 plan
      → Widened show n text
  -- the refutation of the show as it is
  no_plan : (log : List LogLine) → IsSolvedBy show n refuted log
      → text ≡ refuted_text show 0 log
      → Widened show n text
  -- the budget is used up for the show as it is
  spent_at_once : (log : List LogLine) → IsSolvedBy show n spent log
      → text ≡ spent_text show 0 log n
      → Widened show n text
  -- a plan at the lower end of a bracket, the refutation at its upper end, and in the middle the budget is used up
  spent_between : (low high : ℕ) (plan top : List ℕ) (log : List LogLine) → IsBracket low high → low + 2 ≤ high
      → IsPlan (case_of (raised show low)) plan → IsTop show n high top
      → IsSolvedBy (raised show (middle low high)) n spent log
      → text ≡ margin_text (raised show low) low plan ++ (top ++ spent_text (raised show (middle low high)) (middle low high) log n)
      → Widened show n text
