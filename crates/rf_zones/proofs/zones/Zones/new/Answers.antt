use Rattle.rf_zones.proofs.ZonesLemmas.{first_ok}
use Rattle.rf_zones.proofs.zones.Zones.new.Goals as goal

pub invariant_of-result : goal.invariant_of-result
invariant_of-result c = rw (c.of_main.ensures, c.none.ensures) first_ok
