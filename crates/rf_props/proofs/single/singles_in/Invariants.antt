use Rattle.rf_problem.specs.Problem.{case_of}
use Rattle.rf_domain.specs.Sets.{has}
use Rattle.rf_props.proofs.SingleLemmas.{SinglesUpTo}
use Rattle.rf_props.proofs.single.singles_in.Given as goal

abbrev pub invariant-loop-i : goal.invariant-loop-i
invariant-loop-i l = SinglesUpTo (case_of l.problem) (has l.sets) l.carriers l.i l.freqs
