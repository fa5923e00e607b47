-- A loop over the words of a range, which changes bits and counts some of them.
use Rattle.std.proofs.Common.{◌≡◌, ℕ, ◌+◌, ◌*◌, ◌/◌, ◌%◌, ◌^◌, ◌<◌, ◌≤◌, List, Bool, false, ◌&&◌, length, set, refl, sym, ◌∙◌, ap, subst, arith, ◌==◌, slice_index_or, count_ones, bit_and}
use Rattle.std.specs.Int.{bit_at}
use Rattle.std.proofs.lemmas.Nat.Bits.{bit_at_and, bit_at-lt}
use Rattle.rf_domain.specs.Indices.{has_bit, between, count_below}
use Rattle.rf_domain.proofs.Bits.{Changed, changed_first, changed_last, changed_step, between_below}
use Rattle.rf_domain.proofs.CountLaws.{count_none, count_bound, count_tail, word_part}
use Rattle.rf_base.proofs.NumberLaws.{min_test}
use Rattle.rf_domain.proofs.RangeLaws.{past_range}

-- the words below `upto` are changed by f, and those of their bits are counted that g picks
pub record Swept (f g : Bool → Bool → Bool) (before now : List ℕ) (lo hi upto count : ℕ) : Type 0 where
  pub changed : Changed f before now lo hi upto
  pub counted : count ≡ count_below (λ k. g (has_bit before k) (between lo hi k)) (64 * upto)

pub swept_first : (f g : Bool → Bool → Bool) → ((b : Bool) → f b false ≡ b) → ((b : Bool) → g b false ≡ false) → (words : List ℕ) (lo hi : ℕ)
    → Swept f g words words lo hi (lo / 64) 0
swept_first f g idle none words lo hi = record {
  changed = changed_first f idle words lo hi;
  counted = sym (count_none (λ k. g (has_bit words k) (between lo hi k)) (64 * (lo / 64)) (λ k below.
      ap (g (has_bit words k)) (between_below lo hi k (omega arith)) ∙ none (has_bit words k)));
}

pub swept_step : (f g : Bool → Bool → Bool) (before now : List ℕ) (lo hi w count word mask picked : ℕ)
    → Swept f g before now lo hi w count → w < length now
    → ((i : ℕ) → i < 64 → (bit_at word i == 1) ≡ f (bit_at (slice_index_or now w 0) i == 1) (bit_at mask i == 1))
    → picked < 2 ^ 64 → ((i : ℕ) → i < 64 → (bit_at picked i == 1) ≡ g (bit_at (slice_index_or now w 0) i == 1) (bit_at mask i == 1))
    → ((i : ℕ) → i < 64 → (bit_at mask i == 1) ≡ between lo hi (64 * w + i))
    → Swept f g before (set now w word) lo hi (w + 1) (count + count_ones picked)
swept_step f g before now lo hi w count word mask picked swept known bits fits picks masked = record {
  changed = changed_step f before now lo hi w word mask swept.changed known bits masked;
  counted = ap (λ n. n + count_ones picked) swept.counted ∙ sym (word_part (λ k. g (has_bit before k) (between lo hi k)) w picked fits (λ i below.
      picks i below ∙ ap (λ b. g b (bit_at mask i == 1)) (old i below) ∙ ap (g (has_bit before (64 * w + i))) (masked i below)));
}
  where
    old : (i : ℕ) → i < 64 → (bit_at (slice_index_or now w 0) i == 1) ≡ has_bit before (64 * w + i)
    old i below =
        let word : (64 * w + i) / 64 ≡ w = omega arith in
        let place : (64 * w + i) % 64 ≡ i = omega arith in
        let here : has_bit now (64 * w + i) ≡ (bit_at (slice_index_or now w 0) i == 1) = rw (word, place) refl in
        sym here ∙ swept.changed.rest (64 * w + i) (omega arith)

pub swept_bound : (f g : Bool → Bool → Bool) (before now : List ℕ) (lo hi upto count : ℕ) → Swept f g before now lo hi upto count → count ≤ 64 * upto
swept_bound f g before now lo hi upto count swept =
    omega (arith, swept.counted, count_bound (λ k. g (has_bit before k) (between lo hi k)) (64 * upto))

pub swept_bits : (f g : Bool → Bool → Bool) → ((b : Bool) → f b false ≡ b) → (before now : List ℕ) (lo hi upto count : ℕ) → upto ≡ hi / 64 + 1
    → Swept f g before now lo hi upto count → (k : ℕ) → has_bit now k ≡ f (has_bit before k) (between lo hi k)
swept_bits f g idle before now lo hi upto count end swept =
    changed_last f idle before now lo hi (subst (λ (n : ℕ). Changed f before now lo hi n) end swept.changed)

pub swept_count : (f g : Bool → Bool → Bool) → ((b : Bool) → g b false ≡ false) → (before now : List ℕ) (lo hi upto count : ℕ) → upto ≡ hi / 64 + 1
    → Swept f g before now lo hi upto count → count ≡ count_below (λ k. g (has_bit before k) (between lo hi k)) (hi + 1)
swept_count f g none before now lo hi upto count end swept =
    swept.counted ∙ count_tail (λ k. g (has_bit before k) (between lo hi k)) (hi + 1) (64 * upto) (omega arith) (λ k past below.
    ap (g (has_bit before k)) (past_range lo hi k (omega arith)) ∙ none (has_bit before k))

-- the bits that are picked

pub picked_set : (old mask i : ℕ) → (bit_at (bit_and old mask) i == 1) ≡ ((bit_at old i == 1) && (bit_at mask i == 1))
picked_set old mask i = rw (bit_at_and old mask i) (min_test (bit_at old i) (bit_at mask i) (bit_at-lt old i) (bit_at-lt mask i))
