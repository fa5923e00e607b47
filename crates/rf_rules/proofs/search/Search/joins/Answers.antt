use Rattle.std.proofs.Common.{◌≡◌, true, ap, sym, ◌∙◌, is_some, not}
use Rattle.rf_rules.specs.Instances.{at_in}
use Rattle.rf_rules.proofs.HopelessLemmas.{hopeless-order, hopeless-twice, hopeless-unassigned, last-joins}
use Rattle.rf_rules.proofs.search.Search.joins.Goals as goal

pub returns-then-is_none : goal.returns-then-is_none
returns-then-is_none c =
    let s = c.args.self.now in
    sym (hopeless-unassigned s.show.now s.ats.now s.kind c.args.t.now _ c.args.last (ap is_some (sym c.at.ensures) ∙ c.is_none.ensures ∙ ap not c.if-is_none.true))

pub returns-then-contains : goal.returns-then-contains
returns-then-contains c =
    let s = c.args.self.now in
    sym (hopeless-twice s.show.now s.ats.now s.kind c.args.t.now _ c.args.last (sym c.contains.ensures.value ∙ c.if-contains.true))

pub returns-then-not-ends_in_order : goal.returns-then-not-ends_in_order
returns-then-not-ends_in_order c =
    let s = c.args.self.now in
    sym (hopeless-order s.show.now s.ats.now s.kind c.args.t.now _ c.args.last (sym c.ends_in_order.ensures ∙ c.if-not-ends_in_order.true))

pub returns : goal.returns
returns c =
    let s = c.args.self.now in
    let some : is_some (at_in s.ats.now c.args.last) ≡ true = ap is_some (sym c.at.ensures) ∙ c.is_none.ensures ∙ ap not c.if-is_none.false in
    c.has.ensures ∙ c.requires.mates ∙ last-joins s.show.now s.ats.now s.kind c.args.t.now c.args.last c.requires.opened some (sym c.contains.ensures.value ∙ c.if-contains.false)
    (sym c.ends_in_order.ensures ∙ c.if-not-ends_in_order.false)
