use Rattle.std.proofs.Common.{◌≡◌, ℕ, ◌<◌, ◌≤◌, false}
use Rattle.rf_log.specs.Case.{is_allowed}
use Rattle.rf_problem.specs.Problem.{case_of}
use Rattle.rf_props.proofs.apply.is_barred.Given as goal

abbrev pub invariant-loop-k : goal.invariant-loop-k
invariant-loop-k l = (j : ℕ) → l.lo ≤ j → j < l.k → is_allowed (case_of l.problem) l.carrier j ≡ false
