use Rattle.rf_active.specs.Active.{HasFirst}
use Rattle.rf_active.proofs.problem.problem_of.Given as goal

abbrev pub invariant-loop-carrier : goal.invariant-loop-carrier
invariant-loop-carrier l = HasFirst l.show l.carrier l.problem
