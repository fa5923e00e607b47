use Rattle.std.proofs.Common.{refl, arith}
use Rattle.rf_zones.specs.Filled.{filled_to}
use Rattle.rf_zones.proofs.couplings.Couplings.none.Goals as goal

pub invariant_of-result : goal.invariant_of-result
unfolding filled_to
invariant_of-result c = (refl, refl, omega arith)
