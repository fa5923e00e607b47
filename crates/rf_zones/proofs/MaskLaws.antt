-- Lemmas on masks of carriers.
use Rattle.std.proofs.Common.{◌≡◌, ◌<◌, ◌-◌, ◌*◌, ◌^◌, ◌%◌, ℕ, suc, nat_lt, ◌+◌, Bool, true, false, ◌&&◌, ◌||◌, List, [], ◌∷◌, ◌++◌, refl, ap, sym, ◌∙◌, arith, inl, inr}
use Rattle.std.specs.Prelude.{◌==◌, bit_and, bit_or, All}
use Rattle.std.specs.Int.{bit_at}
use Rattle.std.proofs.Math.Nat.{mod-eq_of_lt}
use Rattle.std.proofs.Math.Pow.{pow-lt}
use Rattle.std.proofs.lemmas.Bool.{both_ways, cases_eq, cases_order, eq-eqb, le-ltb, lt-ltb, ne_eqb}
use Rattle.std.proofs.lemmas.List.Folds.{list_all-append}
use Rattle.std.proofs.lemmas.Nat.Bits.{bit_at_and, bit_at_or, bit_at_ones, bit_at-lt, bit_at-pow_other, bit_at-pow_same, bit_at-zero, same_from_bits}
use Rattle.rf_zones.specs.Masks.{has_bit, has_bits}
use Rattle.std.specs.List.{list_all}
use mathlib.Core.Bool.{or-false, and-true}
use Rattle.rf_base.proofs.NumberLaws.{below_two, min_test, max_test}

test-same : (a b : ℕ) → a < 2 → b < 2 → (a == 1) ≡ (b == 1) → a ≡ b
test-same a b p q e = elim (below_two a p) [
  | inl a_is ↦ elim (below_two b q) [
    | inl b_is ↦ a_is ∙ sym b_is
    | inr b_is ↦ absurd (both_ways (a == 1) (ap (λ n. n == 1) a_is) (e ∙ ap (λ n. n == 1) b_is))
  ]
  | inr a_is ↦ elim (below_two b q) [
    | inl b_is ↦ absurd (both_ways (b == 1) (ap (λ n. n == 1) b_is) (sym e ∙ ap (λ n. n == 1) a_is))
    | inr b_is ↦ a_is ∙ sym b_is
  ]
]

pub has_both : (a b c : ℕ) → has_bit (bit_and a b) c ≡ (has_bit a c && has_bit b c)
unfolding has_bit
has_both a b c = rw (bit_at_and a b c) (min_test (bit_at a c) (bit_at b c) (bit_at-lt a c) (bit_at-lt b c))

pub has_either : (a b c : ℕ) → has_bit (bit_or a b) c ≡ (has_bit a c || has_bit b c)
unfolding has_bit
has_either a b c = rw (bit_at_or a b c) (max_test (bit_at a c) (bit_at b c) (bit_at-lt a c) (bit_at-lt b c))

pub has_none : (c : ℕ) → has_bit 0 c ≡ false
unfolding has_bit
has_none c = ap (λ n. n == 1) (bit_at-zero c)

pub has_ones : (width c : ℕ) → c < width → has_bit (2 ^ width - 1) c ≡ true
unfolding has_bit
has_ones width c h = ap (λ n. n == 1) (bit_at_ones width c h)

-- the mask of one carrier
has_power : (carrier c : ℕ) → has_bit (2 ^ carrier) c ≡ (c == carrier)
unfolding has_bit
has_power carrier c = elim (cases_eq c carrier) [
  | inl same ↦ rw same (ap (λ n. n == 1) (bit_at-pow_same carrier) ∙ sym (eq-eqb carrier carrier refl))
  | inr other ↦ ap (λ n. n == 1) (bit_at-pow_other carrier c other) ∙ sym (ne_eqb c carrier other)
]

-- the carriers of a mask, and one more
pub has_with : (width mask carrier c : ℕ) → carrier < width → has_bit (bit_or mask (1 * 2 ^ carrier % 2 ^ width)) c ≡ (has_bit mask c || (c == carrier))
has_with width mask carrier c within =
    let one : 1 * 2 ^ carrier % 2 ^ width ≡ 2 ^ carrier =
    mod-eq_of_lt (omega (arith, pow-lt {i = carrier} {j = width} within)) ∙ omega arith in
    ap (λ n. has_bit (bit_or mask n) c) one ∙ has_either mask (2 ^ carrier) c ∙ ap (λ b. has_bit mask c || b) (has_power carrier c)

-- masks with the same carriers are the same
pub same_mask : (a b : ℕ) → ((c : ℕ) → has_bit a c ≡ has_bit b c) → a ≡ b
unfolding has_bit
same_mask a b same = same_from_bits a b (λ c. test-same (bit_at a c) (bit_at b c) (bit_at-lt a c) (bit_at-lt b c) (same c))

-- the bits of a set and of one more
pub bits_push : (t : List ℕ) (mask c : ℕ) → has_bits (t ++ c ∷ []) mask ≡ (has_bits t mask && has_bit mask c)
bits_push t mask c = list_all-append (has_bit mask) t (c ∷ []) ∙ ap (λ b. has_bits t mask && b) (and-true (has_bit mask c))

-- the numbers below k that pass a test, and k, which passes it
pub passed_yes : (p : ℕ → Bool) (k c : ℕ) → p k ≡ true → ((nat_lt c k && p c) || (c == k)) ≡ (nat_lt c (k + 1) && p c)
passed_yes p k c passes = elim (cases_order c k) [
  | inl same ↦ rw (same, le-ltb k k (omega arith), lt-ltb k (k + 1) (omega arith), eq-eqb k k refl, passes) refl
  | inr apart ↦ elim apart [
    | inl below ↦ rw (lt-ltb c k below, lt-ltb c (k + 1) (omega arith), ne_eqb c k (λ same. omega (arith, same, below))) (or-false (p c))
    | inr above ↦ rw (le-ltb c k (omega arith), le-ltb c (k + 1) (omega arith), ne_eqb c k (λ same. omega (arith, same, above))) refl
  ]
]

-- the numbers below k that pass a test, where k doesn't
pub passed_no : (p : ℕ → Bool) (k c : ℕ) → p k ≡ false → (nat_lt c k && p c) ≡ (nat_lt c (k + 1) && p c)
passed_no p k c passes = elim (cases_order c k) [
  | inl same ↦ rw (same, le-ltb k k (omega arith), lt-ltb k (k + 1) (omega arith), passes) refl
  | inr apart ↦ elim apart [
    | inl below ↦ rw (lt-ltb c k below, lt-ltb c (k + 1) (omega arith)) refl
    | inr above ↦ rw (le-ltb c k (omega arith), le-ltb c (k + 1) (omega arith)) refl
  ]
]

pub passed_none : (p : ℕ → Bool) (c : ℕ) → (nat_lt c 0 && p c) ≡ false
passed_none p c = rw (le-ltb c 0 (omega arith)) refl

-- a set's bits in a mask of the carriers that pass a test
pub bits-same : (n mask : ℕ) (test : ℕ → Bool) (t : List ℕ) → ((c : ℕ) → c < n → has_bit mask c ≡ test c) → All (λ c. c < n) t → has_bits t mask ≡ list_all test t
bits-same n mask test [] h below = refl
bits-same n mask test (c ∷ t) h below =
    rw (h c (below 0 c (omega arith)), bits-same n mask test t h (λ k d low. below (suc k) d (omega (arith, low)))) refl
