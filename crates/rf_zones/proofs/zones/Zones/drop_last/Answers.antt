use Rattle.std.proofs.Common.{◌≡◌, true, drop, List, ◌-◌, ◌+◌, ap, sym, ◌∙◌, length, take, arith}
use Rattle.std.specs.List.{list_all}
use Rattle.std.proofs.lemmas.List.{length_push}
use Rattle.rf_zones.specs.Couplings.{is_apart}
use Rattle.rf_zones.specs.declared.coupling.Coupling.{Coupling}
use Rattle.rf_zones.proofs.PairLaws.{before_last}
use Rattle.rf_zones.proofs.ZonesLemmas.{IsZones-front, distinct-last, put_back}
use Rattle.rf_zones.proofs.zones.Zones.drop_last.Goals as goal

pub shrink-requires-clause-within : goal.shrink-requires-clause-within
shrink-requires-clause-within c =
    let names = ap (λ z. length z.names) c.self.view_is in
    omega (arith, before_last (length c.self.inside.names) (omega arith), c.self.invariant.paired)

pub invariant_of-self : goal.invariant_of-self
invariant_of-self c =
    let names = ap (λ z. length z.names) c.self.view_is in
    let fewer : c.count-count.result - 1 ≡ length c.pop.new.self = omega (arith, ap length c.pop.ensures, length_push c.pop.new.self c.pop.result) in
    IsZones-front _ _ c.pop.result c.self.invariant c.pop.ensures (omega arith) (c.shrink.ensures ∙ ap (λ k. take (length c.self.inside.couplings - k) c.self.inside.couplings) fewer)

pub returns-clause-fresh : goal.returns-clause-fresh
returns-clause-fresh c = distinct-last c.pop.new.self c.pop.result (rw c.pop.ensures at c.self.invariant.distinct)

pub returns-clause-back : goal.returns-clause-back
returns-clause-back c =
    let couplings : List Coupling = c.self.inside.couplings in
    let names = ap (λ z. length z.names) c.self.view_is in
    let one : length c.self.inside.names ≡ length c.pop.new.self + 1 = ap length c.pop.ensures ∙ length_push c.pop.new.self c.pop.result in
    let fewer : c.count-count.result - 1 ≡ length c.pop.new.self = omega arith in
    let last : length c.self.inside.names - 1 ≡ length c.pop.new.self = omega arith in
    let free : list_all is_apart (drop (length couplings - (length c.self.inside.names - 1)) couplings) ≡ true = rw (← c.self.view_is) at c.requires.free in
    put_back (record { names = c.self.inside.names; couplings = couplings }) (record { names = c.pop.new.self; couplings = c.shrink.new.self }) c.pop.result c.pop.ensures
    (omega (arith, before_last (length c.self.inside.names) (omega arith), c.self.invariant.paired))
    (c.shrink.ensures ∙ ap (λ k. take (length couplings - k) couplings) fewer)
    (ap (λ k. list_all is_apart (drop (length couplings - k) couplings)) (sym last) ∙ free)
    ∙ c.self.view_is
