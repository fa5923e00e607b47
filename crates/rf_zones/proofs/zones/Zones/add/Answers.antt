use Rattle.std.proofs.Common.{◌≡◌, ◌+◌, ap, sym, ◌∙◌, length, arith}
use Rattle.rf_zones.proofs.PairLaws.{pairs_fit, pairs-next}
use Rattle.rf_zones.proofs.ZonesLemmas.{IsZones-with_zone, free-with_zone}
use Rattle.rf_zones.proofs.zones.Zones.add.Goals as goal

pub grow-requires : goal.grow-requires
grow-requires c =
    let names = ap (λ z. length z.names) c.self.view_is in
    omega (arith, pairs_fit (length c.self.inside.names + 1) (omega arith), pairs-next (length c.self.inside.names), c.self.invariant.paired)

pub invariant_of-self : goal.invariant_of-self
invariant_of-self c =
    let count : c.count-count.result ≡ length c.self.inside.names = c.count-count.ensures.value ∙ sym (ap (λ z. length z.names) c.self.view_is) in
    rw (c.push.ensures, c.grow.ensures, count)
    (IsZones-with_zone _ c.args.name c.self.invariant (rw (← c.self.view_is) at c.requires.fresh) (rw (← c.self.view_is) at c.requires.room))

pub returns-clause-free : goal.returns-clause-free
returns-clause-free c =
    let count : c.count-count.result ≡ length c.self.inside.names = c.count-count.ensures.value ∙ sym (ap (λ z. length z.names) c.self.view_is) in
    rw (c.push.ensures, c.grow.ensures, count) (free-with_zone (record { names = c.self.inside.names; couplings = c.self.inside.couplings }) c.args.name)
