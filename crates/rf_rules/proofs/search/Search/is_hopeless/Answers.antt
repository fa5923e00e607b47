use Rattle.std.proofs.Common.{◌≡◌, false, ap, sym, ◌∙◌, List, ℕ, ◌++◌, ◌∷◌, is_some, not}
use Rattle.rf_rules.specs.Instances.{is_candidate, is_in_order}
use Rattle.rf_rules.proofs.HopelessLemmas.{hopeless-unassigned, hopeless-twice, hopeless-order, on-true}
use Rattle.rf_rules.proofs.search.Search.is_hopeless.Goals as goal

pub returns-then-is_none : goal.returns-then-is_none
returns-then-is_none c = λ u. let s = c.args.self.now in hopeless-unassigned s.show.now s.ats.now s.kind c.args.t.now u c.args.carrier
    (ap is_some (sym c.at.ensures) ∙ c.is_none.ensures ∙ ap not c.if-is_none.true)

pub returns-then-contains : goal.returns-then-contains
returns-then-contains c = λ u. let s = c.args.self.now in hopeless-twice s.show.now s.ats.now s.kind c.args.t.now u c.args.carrier (sym c.contains.ensures.value ∙ c.if-contains.true)

pub returns : goal.returns
returns c =
    let s = c.args.self.now in
    let t = c.args.t.now in
    on-true c.is_out_of_order.result
    ((u : List ℕ) → is_in_order s.kind (t ++ c.args.carrier ∷ u) ≡ false)
    ((u : List ℕ) → is_candidate s.show.now s.ats.now s.kind (t ++ c.args.carrier ∷ u) ≡ false)
    (λ h u. hopeless-order s.show.now s.ats.now s.kind t u c.args.carrier (h u))
    c.is_out_of_order.ensures
