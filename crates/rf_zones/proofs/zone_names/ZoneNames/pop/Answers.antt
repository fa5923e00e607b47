use Rattle.std.proofs.Common.{◌≡◌, ap, ◌≤◌, ◌+◌, ◌-◌, ℕ, length, arith}
use Rattle.rf_zones.specs.ZoneNames.{main_zone}
use Rattle.rf_zones.specs.declared.zone_names.TheConstants.{MAX_ZONES}
use Rattle.rf_zones.proofs.FilledLemmas.{popped_at}
use Rattle.rf_zones.proofs.zone_names.ZoneNames.pop.Goals as goal

pub invariant_of-self : goal.invariant_of-self
invariant_of-self c =
    let len : ℕ = c.self.inside.len in
    let more : len ≡ len - 1 + 1 = omega (arith, ap length c.self.view_is) in
    let cells = popped_at MAX_ZONES len (len - 1) main_zone c.self.inside.names more c.self.invariant.0 c.self.invariant.1 c.self.invariant.2 in
    let few : len - 1 ≤ MAX_ZONES = omega (arith, c.self.invariant.2) in
    rw c.main_zone.ensures (cells.0, cells.1, few)
