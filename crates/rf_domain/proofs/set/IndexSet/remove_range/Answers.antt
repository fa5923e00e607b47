use Rattle.std.proofs.Common.{◌≡◌, ◌∙◌, ◌+◌, ◌<◌, ◌-◌, ℕ, List, length, ◌&&◌, not, sym, ap, subst, arith}
use Rattle.std.proofs.lemmas.List.{with_items_is}
use Rattle.rf_domain.specs.Indices.{flag, between, has_bit, flags_of, count_below, IsKept, IsPadded, IsLowest}
use Rattle.rf_domain.proofs.Bits.{length-flags_of, flags_less, padded_less}
use Rattle.rf_domain.proofs.Lowest.{sized, count_cleared, kept_cleared}
use Rattle.rf_domain.proofs.set.IndexSet.remove_range.Goals.{After-clear_range}
use Rattle.rf_domain.proofs.set.IndexSet.remove_range.Goals as goal

-- what the words are after the range is cleared
record Cleared (size lo hi removed : ℕ) (old now : List ℕ) : Type 0 where
  within : hi < size
  len : length now ≡ length old
  bits : (k : ℕ) → has_bit now k ≡ (has_bit old k && not (between lo hi k))
  counted : removed ≡ count_below (λ k. has_bit old k && between lo hi k) (hi + 1)

cleared : (c : After-clear_range) → Cleared c.self.inside.size c.args.lo c.args.hi c.clear_range.result c.self.inside.words.items c.clear_range.new.words
cleared c = record {
  within = omega (arith, sized c.self.inside.size c.self.inside.words.items c.args.self.now c.self.view_is);
  len = c.clear_range.auto.words ∙ ap length c.deref_mut.ensures.value;
  bits = subst (λ (ws : List ℕ). (k : ℕ) → has_bit c.clear_range.new.words k ≡ (has_bit ws k && not (between c.args.lo c.args.hi k)))
      c.deref_mut.ensures.value c.clear_range.ensures.bits;
  counted = subst (λ (ws : List ℕ). c.clear_range.result ≡ count_below (λ k. has_bit ws k && between c.args.lo c.args.hi k) (c.args.hi + 1))
      c.deref_mut.ensures.value c.clear_range.ensures.removed;
}

pub clear_range-requires-clause-small : goal.clear_range-requires-clause-small
clear_range-requires-clause-small c =
    omega (arith, c.self.invariant.padded.small, sized c.self.inside.size c.self.inside.words.items c.args.self.now c.self.view_is)

pub clear_range-requires-clause-room : goal.clear_range-requires-clause-room
clear_range-requires-clause-room c =
    omega (arith, c.self.invariant.padded.room, sized c.self.inside.size c.self.inside.words.items c.args.self.now c.self.view_is, ap length c.deref_mut.ensures.value)

pub overflow_sub-self : goal.overflow_sub-self
overflow_sub-self c =
    let done = cleared ((goal.at.overflow_sub-self c).After-clear_range) in
    omega (
      arith,
      c.self.invariant.counted,
      count_cleared c.self.inside.size c.self.inside.words.items c.clear_range.new.words c.args.lo c.args.hi c.clear_range.result done.within done.bits done.counted,
    )

pub lowest_left-self-inside-requires-clause-padded : goal.lowest_left-self-inside-requires-clause-padded
lowest_left-self-inside-requires-clause-padded c =
    let done = cleared ((goal.at.lowest_left-self-inside-requires-clause-padded c).After-clear_range) in
    subst (IsPadded c.self.inside.size) (sym (c.deref.ensures.value ∙ with_items_is c.self.inside.words c.clear_range.new.words (done.len ∙ sym c.self.inside.words.ok.0)))
    (padded_less c.self.inside.size c.self.inside.words.items c.clear_range.new.words c.args.lo c.args.hi c.self.invariant.padded done.len done.bits)

pub lowest_left-self-inside-requires-clause-in_range : goal.lowest_left-self-inside-requires-clause-in_range
lowest_left-self-inside-requires-clause-in_range c = omega (arith, sized c.self.inside.size c.self.inside.words.items c.args.self.now c.self.view_is)

pub returns-clause-size : goal.returns-clause-size
returns-clause-size c = length-flags_of c.self.inside.size _ ∙ sym (sized c.self.inside.size c.self.inside.words.items c.args.self.now c.self.view_is)

pub returns-clause-flags : goal.returns-clause-flags
returns-clause-flags c =
    let done = cleared ((goal.at.returns-clause-flags c).After-clear_range) in
    subst (λ (ws : List ℕ). (k : ℕ) → flag (flags_of c.self.inside.size ws) k ≡ (flag c.args.self.now k && not (between c.args.lo c.args.hi k)))
    (sym (with_items_is c.self.inside.words c.clear_range.new.words (done.len ∙ sym c.self.inside.words.ok.0)))
    (λ k. flags_less c.self.inside.size c.self.inside.words.items c.clear_range.new.words c.args.lo c.args.hi c.self.invariant.padded done.len done.bits k
    ∙ ap (λ set. flag set k && not (between c.args.lo c.args.hi k)) c.self.view_is)

pub invariant_of-self : goal.invariant_of-self
invariant_of-self c =
    let done = cleared ((goal.at.invariant_of-self c).After-clear_range) in
    let items : c.deref.result.now ≡ c.clear_range.new.words =
    c.deref.ensures.value ∙ with_items_is c.self.inside.words c.clear_range.new.words (done.len ∙ sym c.self.inside.words.ok.0) in
    let lowest : IsLowest c.self.inside.size c.deref.result.now c.lowest_left-self-inside.result =
    c.lowest_left-self-inside.ensures c.self.inside.words.items c.self.invariant.lowest (λ k. ap (λ ws. has_bit ws k) items ∙ done.bits k) in
    subst (IsKept c.self.inside.size (c.self.inside.count - c.clear_range.result) c.lowest_left-self-inside.result)
    (sym (with_items_is c.self.inside.words c.clear_range.new.words (done.len ∙ sym c.self.inside.words.ok.0)))
    (kept_cleared c.self.inside.size c.self.inside.count c.self.inside.first c.args.lo c.args.hi c.clear_range.result c.lowest_left-self-inside.result
    c.self.inside.words.items c.clear_range.new.words c.self.invariant done.within done.len done.bits done.counted
    (subst (λ (ws : List ℕ). IsLowest c.self.inside.size ws c.lowest_left-self-inside.result) items lowest))
