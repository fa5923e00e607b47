use Rattle.rf_problem.specs.Problem.{case_of}
use Rattle.rf_props.proofs.CountLemmas.{CountsUpTo}
use Rattle.rf_props.proofs.theory.counts.Given as goal

abbrev pub invariant-loop-carrier : goal.invariant-loop-carrier
invariant-loop-carrier l = CountsUpTo (case_of l.problem) l.counts.items l.carrier
