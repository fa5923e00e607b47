use Rattle.std.proofs.Common.{ap, ◌∙◌, ◌<◌, set, length, arith}
use Rattle.rf_zones.specs.declared.coupling.Coupling.TheVariants.{Apart}
use Rattle.rf_zones.specs.declared.couplings.TheConstants.{MAX_PAIRS}
use Rattle.rf_zones.proofs.FilledLemmas.{written_cells}
use Rattle.rf_zones.proofs.couplings.Couplings.set.Goals as goal

pub invariant_of-self : goal.invariant_of-self
invariant_of-self c =
    let within : c.args.place < c.self.inside.len = omega (arith, ap length c.self.view_is) in
    let cells = written_cells MAX_PAIRS c.self.inside.len c.args.place Apart c.args.coupling c.self.inside.couplings c.self.invariant.0 c.self.invariant.1 within in
    (cells.0, cells.1, c.self.invariant.2)

pub returns : goal.returns
returns c =
    let within : c.args.place < c.self.inside.len = omega (arith, ap length c.self.view_is) in
    let cells = written_cells MAX_PAIRS c.self.inside.len c.args.place Apart c.args.coupling c.self.inside.couplings c.self.invariant.0 c.self.invariant.1 within in
    cells.2 ∙ ap (λ q. set q c.args.place c.args.coupling) c.self.view_is
