use Rattle.std.proofs.Common.{ap, ◌∙◌, ◌+◌, ◌++◌, ◌≤◌, replicate, length, arith}
use Rattle.rf_zones.specs.declared.coupling.Coupling.TheVariants.{Apart}
use Rattle.rf_zones.specs.declared.couplings.TheConstants.{MAX_PAIRS}
use Rattle.rf_zones.proofs.FilledLemmas.{grown_cells}
use Rattle.rf_zones.proofs.couplings.Couplings.grow.Goals as goal

pub invariant_of-self : goal.invariant_of-self
invariant_of-self c =
    let within : c.self.inside.len + c.args.more ≤ MAX_PAIRS = omega (arith, ap length c.self.view_is) in
    let cells = grown_cells MAX_PAIRS c.self.inside.len c.args.more Apart c.self.inside.couplings c.self.invariant.0 c.self.invariant.1 within in
    (cells.0, cells.1, within)

pub returns : goal.returns
returns c =
    let within : c.self.inside.len + c.args.more ≤ MAX_PAIRS = omega (arith, ap length c.self.view_is) in
    let cells = grown_cells MAX_PAIRS c.self.inside.len c.args.more Apart c.self.inside.couplings c.self.invariant.0 c.self.invariant.1 within in
    cells.2 ∙ ap (λ q. q ++ replicate c.args.more Apart) c.self.view_is
