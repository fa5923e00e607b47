use Rattle.rf_props.proofs.RoleLemmas.{IsPadded}
use Rattle.rf_props.proofs.roles.padded.Given as goal

abbrev pub invariant-loop-i : goal.invariant-loop-i
invariant-loop-i l = IsPadded l.roles l.i l.all
