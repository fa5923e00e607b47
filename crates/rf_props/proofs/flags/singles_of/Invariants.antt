use Rattle.rf_problem.specs.Problem.{case_of}
use Rattle.rf_domain.specs.Sets.{has}
use Rattle.rf_props.proofs.FlagLemmas.{FlaggedUpTo}
use Rattle.rf_props.proofs.flags.singles_of.Given as goal

abbrev pub invariant-loop-carrier : goal.invariant-loop-carrier
invariant-loop-carrier l = FlaggedUpTo (case_of l.problem) (has l.domains) l.carrier l.flags
