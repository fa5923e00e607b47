use Rattle.std.proofs.Common.{◌≡◌, take}
use Rattle.rf_decide.proofs.copying.conds_of.Given as goal

abbrev pub invariant-loop-cond : goal.invariant-loop-cond
invariant-loop-cond l = l.copy ≡ take l.cond-index l.conds
