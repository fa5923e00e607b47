use Rattle.std.proofs.Common.{◌≡◌, ℕ, false, ◌+◌, ◌<◌, ◌≤◌, ◌&&◌, List, length, get_or, nat_le, inl, inr, sym, ◌∙◌, arith}
use Rattle.std.specs.List.{list_any}
use Rattle.std.specs.List.Sorted.{IsStrictlyIncreasing, IsNonDecreasing}
use Rattle.std.proofs.lemmas.Bool.{cases_lt, and_parts, and_from, leb-true, le-leb, false_from_ne_true}
use Rattle.std.proofs.lemmas.List.{get_or_default}
use Rattle.std.proofs.lemmas.List.Folds.{Any-from_list_any, list_any_at}
use Rattle.std.proofs.lemmas.List.Sorted.{IsNonDecreasingBy-from_all_adjacent}
use Rattle.rf_base.proofs.BoolLaws.{same_test}

pub rises : (xs : List ℕ) → IsStrictlyIncreasing xs → IsNonDecreasing xs
rises xs up = IsNonDecreasingBy-from_all_adjacent (λ x. x) xs (λ k d within.
    omega (arith, up k within, get_or_default xs k 0 d (omega arith), get_or_default xs (k + 1) 0 d within))

-- the first point from low on tells whether one is from low to high
pub first_tells : (xs : List ℕ) (low high i : ℕ) → IsStrictlyIncreasing xs → ((k : ℕ) → k < i → k < length xs → get_or xs k 0 < low) → ((k : ℕ) → i ≤ k → k < length xs → low ≤ get_or xs k 0) →
    i < length xs → nat_le (get_or xs i 0) high ≡ list_any (λ p. nat_le low p && nat_le p high) xs
first_tells xs low high i up below above within = same_test (nat_le (get_or xs i 0) high) (list_any (λ p. nat_le low p && nat_le p high) xs)
    (λ here. list_any_at (λ p. nat_le low p && nat_le p high) xs i 0 within
    (and_from (nat_le low (get_or xs i 0)) (nat_le (get_or xs i 0) high) (le-leb low (get_or xs i 0) (above i (omega arith) within)) here))
    (λ some.
    let found = Any-from_list_any (λ p. nat_le low p && nat_le p high) xs some in
    let parts = and_parts (nat_le low found.1) (nat_le found.1 high) found.4 in
    let is : get_or xs found.0 0 ≡ found.1 = get_or_default xs found.0 0 found.1 found.2 ∙ found.3 in
    elim (cases_lt found.0 i) [
      | inl before ↦ absurd (omega (arith, below found.0 before found.2, leb-true low found.1 parts.0))
      | inr after ↦ le-leb (get_or xs i 0) high (omega (arith, rises xs up i found.0 0 after found.2, leb-true found.1 high parts.1))
    ])

pub none_tells : (xs : List ℕ) (low high i : ℕ) → ((k : ℕ) → k < i → k < length xs → get_or xs k 0 < low) → length xs ≤ i → false ≡ list_any (λ p. nat_le low p && nat_le p high) xs
none_tells xs low high i below past = sym (false_from_ne_true (list_any (λ p. nat_le low p && nat_le p high) xs) (λ some.
    let found = Any-from_list_any (λ p. nat_le low p && nat_le p high) xs some in
    let parts = and_parts (nat_le low found.1) (nat_le found.1 high) found.4 in
    let is : get_or xs found.0 0 ≡ found.1 = get_or_default xs found.0 0 found.1 found.2 ∙ found.3 in
    omega (arith, below found.0 (omega (arith, found.2)) found.2, leb-true low found.1 parts.0)))
