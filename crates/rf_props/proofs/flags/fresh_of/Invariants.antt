use Rattle.std.proofs.Common.{length}
use Rattle.rf_props.proofs.FlagLemmas.{FreshUpTo}
use Rattle.rf_props.proofs.flags.fresh_of.Given as goal

abbrev pub invariant-loop-carrier : goal.invariant-loop-carrier
invariant-loop-carrier l = FreshUpTo (length l.problem.carriers) l.single l.known l.carrier l.fresh.items
