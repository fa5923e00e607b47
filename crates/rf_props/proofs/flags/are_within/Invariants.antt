use Rattle.rf_props.proofs.FlagLemmas.{WithinUpTo}
use Rattle.rf_props.proofs.flags.are_within.Given as goal

abbrev pub invariant-loop-carrier : goal.invariant-loop-carrier
invariant-loop-carrier l = WithinUpTo l.flags l.others l.carrier
