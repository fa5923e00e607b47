use Rattle.rf_propagate.proofs.LineLaws.{IsClearTo}
use Rattle.rf_propagate.proofs.line.clear.Given as goal

abbrev pub invariant-loop-carrier : goal.invariant-loop-carrier
invariant-loop-carrier l = IsClearTo l.initial.sets l.sets l.carrier
