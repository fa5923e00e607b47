use Rattle.std.proofs.Common.{◌≡◌, ◌∙◌, ◌+◌, ◌<◌, ℕ, List, length, ◌&&◌, ◌||◌, not, min, sym, ap, subst, arith}
use Rattle.std.specs.Vec.{with_items}
use Rattle.std.proofs.lemmas.List.{with_items_is}
use Rattle.rf_domain.specs.Indices.{flag, between, has_bit, flags_of, count_below, IsKept}
use Rattle.rf_domain.proofs.Bits.{length-flags_of, flags_more}
use Rattle.rf_domain.proofs.CountLaws.{count_bound}
use Rattle.rf_domain.proofs.Lowest.{sized, count_filled, kept_filled}
use Rattle.rf_domain.proofs.set.IndexSet.put_back.Goals.{After-fill_range}
use Rattle.rf_domain.proofs.set.IndexSet.put_back.Goals as goal

-- what the words are after the range is filled
record Filled (size lo hi added : ℕ) (old now : List ℕ) : Type 0 where
  within : hi < size
  len : length now ≡ length old
  bits : (k : ℕ) → has_bit now k ≡ (has_bit old k || between lo hi k)
  counted : added ≡ count_below (λ k. between lo hi k && not (has_bit old k)) (hi + 1)

filled : (c : After-fill_range) → Filled c.self.inside.size c.args.lo c.args.hi c.fill_range.result c.self.inside.words.items c.fill_range.new.words
filled c = record {
  within = omega (arith, sized c.self.inside.size c.self.inside.words.items c.args.self.now c.self.view_is);
  len = c.fill_range.auto.words ∙ ap length c.deref_mut.ensures.value;
  bits = subst (λ (ws : List ℕ). (k : ℕ) → has_bit c.fill_range.new.words k ≡ (has_bit ws k || between c.args.lo c.args.hi k))
      c.deref_mut.ensures.value c.fill_range.ensures.bits;
  counted = subst (λ (ws : List ℕ). c.fill_range.result ≡ count_below (λ k. between c.args.lo c.args.hi k && not (has_bit ws k)) (c.args.hi + 1))
      c.deref_mut.ensures.value c.fill_range.ensures.added;
}

pub fill_range-requires-clause-small : goal.fill_range-requires-clause-small
fill_range-requires-clause-small c =
    omega (arith, c.self.invariant.padded.small, sized c.self.inside.size c.self.inside.words.items c.args.self.now c.self.view_is)

pub fill_range-requires-clause-room : goal.fill_range-requires-clause-room
fill_range-requires-clause-room c =
    omega (arith, c.self.invariant.padded.room, sized c.self.inside.size c.self.inside.words.items c.args.self.now c.self.view_is, ap length c.deref_mut.ensures.value)

pub overflow_add-self : goal.overflow_add-self
overflow_add-self c =
    let done = filled ((goal.at.overflow_add-self c).After-fill_range) in
    omega (
      arith,
      c.self.invariant.counted,
      count_filled c.self.inside.size c.self.inside.words.items c.fill_range.new.words c.args.lo c.args.hi c.fill_range.result done.within done.bits done.counted,
      count_bound (has_bit c.fill_range.new.words) c.self.inside.size,
      c.self.invariant.padded.small,
    )

pub returns-clause-size : goal.returns-clause-size
returns-clause-size c = length-flags_of c.self.inside.size _ ∙ sym (sized c.self.inside.size c.self.inside.words.items c.args.self.now c.self.view_is)

pub returns-clause-flags : goal.returns-clause-flags
returns-clause-flags c =
    let done = filled ((goal.at.returns-clause-flags c).After-fill_range) in
    subst (λ (ws : List ℕ). (k : ℕ) → flag (flags_of c.self.inside.size ws) k ≡ (flag c.args.self.now k || between c.args.lo c.args.hi k))
    (sym (with_items_is c.self.inside.words c.fill_range.new.words (done.len ∙ sym c.self.inside.words.ok.0)))
    (λ k. flags_more c.self.inside.size c.self.inside.words.items c.fill_range.new.words c.args.lo c.args.hi c.self.invariant.padded done.len done.within done.bits k
    ∙ ap (λ set. flag set k || between c.args.lo c.args.hi k) c.self.view_is)

pub invariant_of-self : goal.invariant_of-self
invariant_of-self c =
    let done = filled ((goal.at.invariant_of-self c).After-fill_range) in
    subst (λ (first : ℕ). IsKept c.self.inside.size (c.self.inside.count + c.fill_range.result) first (with_items c.self.inside.words c.fill_range.new.words).items) (sym c.min-self-inside.ensures)
    (subst (IsKept c.self.inside.size (c.self.inside.count + c.fill_range.result) (min c.self.inside.first c.args.lo))
    (sym (with_items_is c.self.inside.words c.fill_range.new.words (done.len ∙ sym c.self.inside.words.ok.0)))
    (kept_filled c.self.inside.size c.self.inside.count c.self.inside.first c.args.lo c.args.hi c.fill_range.result
    c.self.inside.words.items c.fill_range.new.words c.self.invariant c.requires.ordered done.within done.len done.bits done.counted))
