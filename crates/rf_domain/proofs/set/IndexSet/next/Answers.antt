use Rattle.std.proofs.Common.{◌≡◌, ℕ, List, ◌≤◌, false, subst, arith, MatchOption}
use Rattle.rf_domain.specs.Indices.{has_bit, IsFirstBit}
use Rattle.rf_domain.proofs.Bits.{next_of}
use Rattle.rf_domain.proofs.Lowest.{none_set, none_behind, first_next}
use Rattle.rf_domain.proofs.set.IndexSet.next.Goals as goal

pub returns-then-from-self : goal.returns-then-from-self
returns-then-from-self c =
    next_of c.self.inside.size c.args.from c.self.inside.words.items c.args.self.now c.self.invariant.padded c.self.view_is c.next_bit.result
    (subst (λ (ws : List ℕ). MatchOption c.next_bit.result ((j : ℕ) → c.args.from ≤ j → has_bit ws j ≡ false) (λ k. IsFirstBit ws c.args.from k))
    c.deref.ensures.value c.next_bit.ensures)

pub returns-then-self-eq1 : goal.returns-then-self-eq1
returns-then-self-eq1 c =
    none_behind c.self.inside.size c.self.inside.count c.self.inside.first c.args.from c.self.inside.words.items c.args.self.now c.self.invariant c.self.view_is c.if-self-eq1.true
    (omega (arith, c.if-from-self.true))

pub returns-then-self-eq0 : goal.returns-then-self-eq0
returns-then-self-eq0 c = record {
  none = λ j later. none_set c.self.inside.size c.self.inside.count c.self.inside.first c.self.inside.words.items c.args.self.now c.self.invariant c.self.view_is c.if-self-eq0.true j;
}

pub returns : goal.returns
returns c =
    first_next c.self.inside.size c.self.inside.count c.self.inside.first c.args.from c.self.inside.words.items c.args.self.now c.self.invariant c.self.view_is
    (omega arith) (omega arith)
