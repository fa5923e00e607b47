use Rattle.std.proofs.Common.{refl, arith}
use Rattle.rf_zones.specs.Filled.{filled_to}
use Rattle.rf_zones.proofs.zone_names.ZoneNames.of_main.Goals as goal

pub invariant_of-result : goal.invariant_of-result
unfolding filled_to
invariant_of-result c = rw c.main_zone.ensures (refl, refl, omega arith)
