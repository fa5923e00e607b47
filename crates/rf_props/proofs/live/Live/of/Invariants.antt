use Rattle.rf_problem.specs.Problem.{case_of}
use Rattle.rf_props.specs.Sweeps.{left}
use Rattle.rf_props.proofs.LiveLemmas.{MarkedUpTo}
use Rattle.rf_props.proofs.live.Live.of.Given as goal

abbrev pub invariant-loop-carrier : goal.invariant-loop-carrier
invariant-loop-carrier l = MarkedUpTo (case_of l.problem) (left l.trail) l.live l.carrier
