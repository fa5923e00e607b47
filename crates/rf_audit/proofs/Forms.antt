-- Forms that rise with one frequency.
use Rattle.std.proofs.Common.{◌≡◌, ◌<◌, ◌≤◌, ◌+◌, ◌-◌, ◌*◌, ℕ, zero, suc, ℤ, pos, negsuc, ◌+ℤ◌, ◌*ℤ◌, ◌≤ℤ◌, ◌<ℤ◌, ◌-ℤ◌, ◌↔◌, unsigned_abs, List, length, arith, inl, inr, to_z, of_z, w64}
use Rattle.std.proofs.Common.{◌^◌, slice_index}
use Rattle.std.specs.List.Sorted.{IsStrictlyIncreasing}
use Rattle.std.proofs.lemmas.Int.{ints}
use Rattle.std.proofs.lemmas.Bool.{cases_lt}
use Rattle.std.proofs.Math.Nat.{mul-le-mul_left}
use Rattle.std.proofs.Math.IntN.{negsuc-*ℤ-pos}
use Rattle.rf_terms.proofs.FormLaws.{told}

rises-by : (freqs : List ℕ) → IsStrictlyIncreasing freqs → (i n : ℕ) → i + n < length freqs → slice_index freqs i ≤ slice_index freqs (i + n)
rises-by freqs rising i zero low = grind arith
rises-by freqs rising i (suc n) low =
    let next : slice_index freqs (i + n) < slice_index freqs (i + n + 1) = rising (i + n) (omega (arith, low)) in
    grind (arith, next, rises-by freqs rising i n (omega (arith, low)))

pub rises : (freqs : List ℕ) → IsStrictlyIncreasing freqs → (i j : ℕ) → i ≤ j → j < length freqs → slice_index freqs i ≤ slice_index freqs j
rises freqs rising i j order low = grind (arith, rises-by freqs rising i (j - i) (omega (arith, order, low)))

pub form-rises : (rest multiple : ℤ) (f g : ℕ) → pos 0 ≤ℤ multiple → f ≤ g → (rest +ℤ (multiple *ℤ pos f)) ≤ℤ (rest +ℤ (multiple *ℤ pos g))
form-rises rest (pos n) f g above order = let more : n * f ≤ n * g = mul-le-mul_left n order in omega (arith, ints, more)
form-rises rest (negsuc n) f g above order = absurd (omega (arith, ints, above))

-- up to an index at which the form lies at most at the bound it does, and from one on at which it lies above, it does
pub still-low : (freqs : List ℕ) (rest multiple bound : ℤ) (m : ℕ) → IsStrictlyIncreasing freqs → pos 0 ≤ℤ multiple → m < length freqs
    → (rest +ℤ (multiple *ℤ pos (slice_index freqs m))) ≤ℤ bound → (k : ℕ) → k < m + 1 → (rest +ℤ (multiple *ℤ pos (slice_index freqs k))) ≤ℤ bound
still-low freqs rest multiple bound m rising above low here k order =
    omega (arith, ints, form-rises rest multiple (slice_index freqs k) (slice_index freqs m) above (rises freqs rising k m (omega (arith, order)) low), here)

pub still-high : (freqs : List ℕ) (rest multiple bound : ℤ) (m : ℕ) → IsStrictlyIncreasing freqs → pos 0 ≤ℤ multiple
    → bound <ℤ (rest +ℤ (multiple *ℤ pos (slice_index freqs m))) → (k : ℕ) → m ≤ k → k < length freqs → bound <ℤ (rest +ℤ (multiple *ℤ pos (slice_index freqs k)))
still-high freqs rest multiple bound m rising above here k order low =
    omega (arith, ints, form-rises rest multiple (slice_index freqs m) (slice_index freqs k) above (rises freqs rising m k order low), here)

-- a value that rises past -margin at `from`, and past margin - 1 at `end`
pub near-between : (n : ℕ) (value : ℕ → ℤ) (margin : ℕ) (low high : ℤ) (from end : ℕ) → low ≡ pos 0 -ℤ pos margin → high ≡ pos margin -ℤ pos 1
    → ((k : ℕ) → k < from → value k ≤ℤ low) → ((k : ℕ) → from ≤ k → k < n → low <ℤ value k)
    → ((k : ℕ) → k < end → value k ≤ℤ high) → ((k : ℕ) → end ≤ k → k < n → high <ℤ value k)
    → (k : ℕ) → k < n → (unsigned_abs (value k) < margin) ↔ ((from ≤ k) × (k < end))
near-between n value margin low high from end e f before after before2 after2 k known = (
  λ near. (
    elim (cases_lt k from) [
      | inl below ↦ let h = before k below in absurd (omega (arith, ints, near, h, e))
      | inr above ↦ above
    ],
    elim (cases_lt k end) [
      | inl below ↦ below
      | inr above ↦ let h = after2 k above known in absurd (omega (arith, ints, near, h, f))
    ],
  ),
  λ both. let h = after k both.0 known in let g = before2 k both.1 in omega (arith, ints, h, g, e, f),
)

-- the negated form lies as near to 0
pub mirrored : (rest multiple : ℤ) (f : ℕ) → multiple <ℤ pos 0 → unsigned_abs ((pos 0 -ℤ rest) +ℤ ((pos 0 -ℤ multiple) *ℤ pos f)) ≡ unsigned_abs (rest +ℤ (multiple *ℤ pos f))
mirrored rest (pos n) f below = absurd (omega (arith, ints, below))
mirrored rest (negsuc n) f below = rw (negsuc-*ℤ-pos n f) (omega (arith, ints))

-- a number that is negated in 64 bits
pub negated : (z : ℤ) (n : ℕ) → unsigned_abs z ≤ n → n < 2 ^ 62 → to_z w64 (of_z w64 (pos 0 -ℤ to_z w64 (of_z w64 z))) ≡ pos 0 -ℤ z
negated z n small few = rw (told z (omega (arith, small, few))) (told (pos 0 -ℤ z) (omega (arith, ints, small, few)))

pub lowered : (z : ℤ) (n : ℕ) → unsigned_abs z ≤ n → n < 2 ^ 62 → to_z w64 (of_z w64 (to_z w64 (of_z w64 z) -ℤ pos 1)) ≡ z -ℤ pos 1
lowered z n small few = rw (told z (omega (arith, small, few))) (told (z -ℤ pos 1) (omega (arith, ints, small, few)))
