use Rattle.std.proofs.Common.{refl, arith}
use Rattle.rf_zones.specs.Filled.{filled_to}
use Rattle.rf_zones.proofs.times.Times.new.Goals as goal

pub invariant_of-result : goal.invariant_of-result
unfolding filled_to
invariant_of-result c = (record { few = omega arith; valid = refl }, refl, refl)
