use Rattle.std.proofs.Common.{◌<◌, ◌≤◌, ◌+◌, ap, length, arith}
use Rattle.rf_zones.specs.ZoneNames.{main_zone}
use Rattle.rf_zones.specs.declared.zone_names.TheConstants.{MAX_ZONES}
use Rattle.rf_zones.proofs.FilledLemmas.{pushed_cells}
use Rattle.rf_zones.proofs.zone_names.ZoneNames.push.Goals as goal

pub invariant_of-self : goal.invariant_of-self
invariant_of-self c =
    let within : c.self.inside.len < MAX_ZONES = omega (arith, ap length c.self.view_is) in
    let cells = pushed_cells MAX_ZONES c.self.inside.len main_zone c.args.name c.self.inside.names c.self.invariant.0 c.self.invariant.1 within in
    let few : c.self.inside.len + 1 ≤ MAX_ZONES = omega arith in
    (cells.0, cells.1, few)
