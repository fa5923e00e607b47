use Rattle.std.proofs.Common.{ap, ◌<◌, length, arith}
use Rattle.rf_zones.proofs.FilledLemmas.{pushed_cells}
use Rattle.rf_zones.proofs.TimesLemmas.{IsTimes-push}
use Rattle.rf_zones.proofs.times.Times.add.Goals as goal

pub invariant_of-self : goal.invariant_of-self
invariant_of-self c =
    let within : c.self.inside.len < 8 = omega (arith, ap length c.self.view_is) in
    let cells = pushed_cells 8 c.self.inside.len (0, 0) (c.args.from, c.args.to) c.self.inside.intervals c.self.invariant.1 c.self.invariant.2 within in
    let times = IsTimes-push _ c.args.from c.args.to c.self.invariant.0 c.requires.rises c.requires.within (omega arith) in
    (rw cells.2 times, cells.0, cells.1)
