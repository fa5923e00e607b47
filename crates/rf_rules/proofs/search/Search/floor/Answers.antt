use Rattle.std.proofs.Common.{pos, ap, ◌∙◌, arith}
use Rattle.rf_rules.specs.declared.lane.Lane.{Lane}
use Rattle.rf_rules.proofs.FormLemmas.{floor-spacing}
use Rattle.rf_rules.proofs.ReadyLemmas.{ready-lane, ready-lanes}
use Rattle.rf_rules.proofs.search.Search.floor.Goals as goal

pub bounds-self-carrier : goal.bounds-self-carrier
bounds-self-carrier c = omega (arith, ready-lanes c.args.self.now c.requires.ready, c.requires.carrier)

pub returns-in-Spacing : goal.returns-in-Spacing
returns-in-Spacing c =
    let s = c.args.self.now in
    ap (λ (l : Lane). l.needs) (ready-lane s c.args.carrier (record { term = pos 0; needs = 0 }) c.requires.ready c.requires.carrier) ∙ floor-spacing s.show.now s.kind
    c.args.carrier c.in-Spacing.is
