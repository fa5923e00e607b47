-- Numbers below a bound, and those of one bit.
use Rattle.std.proofs.Common.{◌≡◌, ℕ, zero, suc, ◌<◌, refl, ap, arith, ◌⊎◌, inl, inr, ◌==◌, min, ◌&&◌, max, ◌||◌}
use Rattle.std.proofs.lemmas.Bool.Decides.{nat_tests}

pub lt_cases : (k n : ℕ) → k < suc n → (k < n) ⊎ (k ≡ n)
lt_cases zero zero h = inr refl
lt_cases zero (suc n) h = inl (omega arith)
lt_cases (suc k) zero h = absurd (omega arith)
lt_cases (suc k) (suc n) h = elim (lt_cases k n (omega arith)) [ inl below ↦ inl (omega arith) | inr same ↦ inr (ap suc same) ]

pub eq_swap : (a b : ℕ) → (a == b) ≡ (b == a)
eq_swap a b = grind (arith, nat_tests)

pub below_two : (a : ℕ) → a < 2 → (a ≡ 0) ⊎ (a ≡ 1)
below_two zero h = inl refl
below_two (suc zero) h = inr refl
below_two (suc (suc a)) h = absurd (omega arith)

pub min_test : (a b : ℕ) → a < 2 → b < 2 → (min a b == 1) ≡ ((a == 1) && (b == 1))
min_test a b small_a small_b = elim (below_two a small_a) [
  | inl e ↦ rw e (elim (below_two b small_b) [ inl d ↦ rw d | inr d ↦ rw d ])
  | inr e ↦ rw e (elim (below_two b small_b) [ inl d ↦ rw d | inr d ↦ rw d ])
]

pub max_test : (a b : ℕ) → a < 2 → b < 2 → (max a b == 1) ≡ ((a == 1) || (b == 1))
max_test a b small_a small_b = elim (below_two a small_a) [
  | inl e ↦ rw e (elim (below_two b small_b) [ inl d ↦ rw d | inr d ↦ rw d ])
  | inr e ↦ rw e (elim (below_two b small_b) [ inl d ↦ rw d | inr d ↦ rw d ])
]
