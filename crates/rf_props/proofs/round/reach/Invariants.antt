use Rattle.rf_problem.specs.Problem.{case_of}
use Rattle.rf_props.proofs.SweepLemmas.{ReachUpTo}
use Rattle.rf_props.proofs.round.reach.Given as goal

abbrev pub invariant-loop-carrier : goal.invariant-loop-carrier
invariant-loop-carrier l = ReachUpTo (case_of l.problem) l.kind l.carrier l.reach
