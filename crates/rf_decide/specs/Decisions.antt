-- What a decision says of a show.
use Rattle.std.specs.Prelude.{ℕ, suc}
use Rattle.rf_log.specs.Case.{IsPlan}
use Rattle.rf_log.specs.Solved.{refuted, spent}
use Rattle.rf_show.specs.Case.{case_of}
use Rattle.rf_show.specs.Show.{ShowData}
use Rattle.rf_solving.specs.Solving.{IsSolvedBy}
use Rattle.rf_decide.specs.declared.decide.Decision.{Decision}
use Rattle.rf_decide.specs.declared.decide.Decision.TheVariants.{Plan, Refuted, Spent}

-- what a decision says of a show with this budget
abbrev pub IsDecision : ShowData → ℕ → Decision → Type 0
IsDecision show n (Plan plan) = IsPlan (case_of show) plan
IsDecision show n (Refuted log) = IsSolvedBy show n refuted log
IsDecision show n (Spent log) = IsSolvedBy show n spent log

-- so many calls, each with some show, lead from one state to another
pub data Calls {S : Type 0} (asked : S → ShowData → S → Type 0) : ℕ → S → S → Type 0 where
  no_call : {state : S} → Calls asked 0 state state
  and_call : {n : ℕ} {first mid last : S} {show : ShowData} → Calls asked n first mid → asked mid show last
      → Calls asked (suc n) first last
