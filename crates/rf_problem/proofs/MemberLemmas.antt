-- The carriers of a mask.
use Rattle.std.proofs.Common.{◌≡◌, ℕ, zero, suc, ◌+◌, ◌<◌, ◌≤◌, List, [], ◌∷◌, ◌++◌, true, false, length, take, refl, sym, ◌∙◌, ap, set, arith, length-append, All, ◌-◌, append-nil}
use Rattle.std.specs.List.{filter, range_with_len}
use Rattle.std.proofs.lemmas.Bool.Decides.{nat_tests}
use Rattle.std.proofs.lemmas.List.{take_more_set}
use Rattle.std.proofs.Math.ListN.{length-set}
use Rattle.std.proofs.lemmas.List.FromFn.{length-range_with_len, get_or-range_with_len}
use Rattle.std.proofs.lemmas.List.Elements.{filter-append, All-filter}
use Rattle.rf_zones.specs.Masks.{has_bit}
use Rattle.rf_log.specs.Case.{is_among, are_distinct}
use Rattle.rf_problem.specs.Problem.{members_of}
use Rattle.rf_log.proofs.CaseLaws.{distinct_range}

range_split : (a m n b k : ℕ) → b ≡ a + m → k ≡ m + n → range_with_len a k ≡ range_with_len a m ++ range_with_len b n
range_split a zero n b k from all =
    let e : k ≡ n = omega arith in
    let f : a ≡ b = omega arith in
    ap (range_with_len a) e ∙ ap (λ x. range_with_len x n) f
range_split a (suc m) n b k from all =
    let e : k ≡ suc (m + n) = omega arith in
    ap (range_with_len a) e ∙ ap (λ xs. a ∷ xs) (range_split (a + 1) m n b (m + n) (omega arith) refl)

members_more : (mask c : ℕ) → members_of (c + 1) mask ≡ members_of c mask ++ filter (has_bit mask) (c ∷ [])
members_more mask c =
    ap (filter (has_bit mask)) (range_split 0 c 1 c (c + 1) (omega arith) refl) ∙ filter-append (has_bit mask) (range_with_len 0 c) (c ∷ [])

pub members_on : (mask c : ℕ) → has_bit mask c ≡ true → members_of (c + 1) mask ≡ members_of c mask ++ c ∷ []
members_on mask c e = members_more mask c ∙ ap (λ xs. members_of c mask ++ xs) (rw e)

pub members_off : (mask c : ℕ) → has_bit mask c ≡ false → members_of (c + 1) mask ≡ members_of c mask
members_off mask c e = members_more mask c ∙ rw e (append-nil (members_of c mask))

pub members_fewer : (mask c n : ℕ) → c ≤ n → length (members_of c mask) ≤ length (members_of n mask)
members_fewer mask c n below =
    let parts : members_of n mask ≡ members_of c mask ++ filter (has_bit mask) (range_with_len c (n - c)) =
    ap (filter (has_bit mask)) (range_split 0 c (n - c) c n (omega arith) (omega arith)) ∙ filter-append (has_bit mask) (range_with_len 0 c) (range_with_len c (n - c)) in
    omega (arith, ap length parts, length-append (members_of c mask) (filter (has_bit mask) (range_with_len c (n - c))))

no_earlier : (a b n : ℕ) → a < b → is_among (range_with_len b n) a ≡ false
no_earlier a b zero before = refl
no_earlier a b (suc n) before = let rest : is_among (range_with_len (b + 1) n) a ≡ false = no_earlier a (b + 1) n (omega arith) in grind (arith, nat_tests)

below_range : (a n : ℕ) → All (λ c. c < a + n) (range_with_len a n)
below_range a n k d known =
    omega (arith, get_or-range_with_len a n k d (omega (arith, length-range_with_len a n, known)), length-range_with_len a n, known)

pub members_distinct : (mask n : ℕ) → are_distinct (members_of n mask) ≡ true
members_distinct mask n = distinct_range (has_bit mask) 0 n

pub members_below : (mask n : ℕ) → All (λ c. c < n) (members_of n mask)
members_below mask n =
    All-filter (has_bit mask) (λ c. c < n) (range_with_len 0 n) (λ k d known. omega (arith, below_range 0 n k d known))

-- what one turn of the loop leaves
pub record AreMembers (mask c len : ℕ) (all : List ℕ) : Type 0 where
  pub room : length all ≡ 4
  pub counted : len ≡ length (members_of c mask)
  pub value : take len all ≡ members_of c mask

pub members_passed : (mask c len : ℕ) (all : List ℕ) → AreMembers mask c len all → has_bit mask c ≡ false → AreMembers mask (c + 1) len all
members_passed mask c len all so e = record {
  room = so.room;
  counted = so.counted ∙ ap length (sym (members_off mask c e));
  value = so.value ∙ sym (members_off mask c e);
}

pub members_taken : (mask c len : ℕ) (all : List ℕ) → AreMembers mask c len all → has_bit mask c ≡ true → len < 4 → AreMembers mask (c + 1) (len + 1) (set all len c)
members_taken mask c len all so e small = record {
  room = length-set all len c ∙ so.room;
  counted = omega (arith, so.counted, ap length (members_on mask c e), length-append (members_of c mask) (c ∷ []));
  value = take_more_set all len c (omega arith) ∙ ap (λ xs. xs ++ c ∷ []) so.value ∙ sym (members_on mask c e);
}

pub members_same : (mask m n : ℕ) (xs : List ℕ) → m ≡ n → xs ≡ members_of m mask → xs ≡ members_of n mask
members_same mask m n xs e is = is ∙ ap (λ k. members_of k mask) e
