use Rattle.std.proofs.Common.{◌≡◌, ◌∙◌, ◌+◌, ◌-◌, ◌/◌, ◌||◌, sym, ap, subst, length, replicate, ℕ, List, nat_lt}
use Rattle.std.proofs.lemmas.List.{with_items_is, length-replicate}
use Rattle.rf_domain.specs.Indices.{has_bit, between, IsPadded}
use Rattle.rf_domain.proofs.Bits.{zero_bit, padded_full, filled, whole, nothing_below}
use Rattle.rf_domain.proofs.Lowest.{kept_full}
use Rattle.rf_domain.proofs.set.IndexSet.full.Goals.{then-size-gt0, else-size-gt0}
use Rattle.rf_domain.proofs.set.IndexSet.full.Goals as goal

-- the words that are made have just the bits below the size
record Made (size : ℕ) (words : List ℕ) : Type 0 where
  len : length words ≡ (size + 63) / 64
  bits : (k : ℕ) → has_bit words k ≡ nat_lt k size

made : (c : goal.Joined-size-gt0) → Made c.args.size c.if-size-gt0.words.items
made c =
    let size = c.args.size in
    let zeros : c.in_ok-words.words.items ≡ replicate ((size + 63) / 64) 0 = c.in_ok-words.ensures.items_if_clones_equal (λ y same. same) in
    let len : length c.in_ok-words.words.items ≡ (size + 63) / 64 = ap length zeros ∙ length-replicate ((size + 63) / 64) 0 in
    elim c.if-size-gt0.branch [
      | then-size-gt0 w ↦
          let new = w.fill_range.new.words in
          let new_len : length new ≡ length c.in_ok-words.words.items = w.fill_range.auto.words ∙ ap length w.deref_mut.ensures.value in
          let made_here : Made size new = record {
            len = new_len ∙ len;
            bits = λ k. w.fill_range.ensures.bits k ∙ ap (λ ws. has_bit ws k || between 0 (size - 1) k) (w.deref_mut.ensures.value ∙ zeros)
                ∙ ap (λ b. b || between 0 (size - 1) k) (zero_bit ((size + 63) / 64) k) ∙ filled size k w.if-size-gt0.true;
          } in
          subst (Made size) (sym (ap (λ v. v.items) w.words-is ∙ with_items_is c.in_ok-words.words new (new_len ∙ sym c.in_ok-words.words.ok.0))) made_here
      | else-size-gt0 w ↦
          let made_here : Made size c.in_ok-words.words.items = record {
            len = len;
            bits = λ k. ap (λ ws. has_bit ws k) zeros ∙ zero_bit ((size + 63) / 64) k ∙ nothing_below size k w.if-size-gt0.false;
          } in
          subst (Made size) (sym (ap (λ v. v.items) w.words-is)) made_here
    ]

pub returns : goal.returns
returns c =
    let all = made c in
    let padded : IsPadded c.args.size c.if-size-gt0.words.items = padded_full c.args.size c.if-size-gt0.words.items c.requires all.len all.bits in
    whole c.args.size c.if-size-gt0.words.items padded all.bits

pub invariant_of-result : goal.invariant_of-result
invariant_of-result c =
    let all = made c in
    kept_full c.args.size c.if-size-gt0.words.items (padded_full c.args.size c.if-size-gt0.words.items c.requires all.len all.bits) all.bits
