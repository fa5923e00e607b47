-- A rising list of numbers is told by its members.
use Rattle.std.proofs.Common.{◌≡◌, ◌↔◌, ◌∷◌, [], ℕ, Bool, true, false, ◌||◌, ◌+◌, ◌<◌, ◌≤◌, List, nat_eq, nat_lt, refl, sym, ◌∙◌, arith, inl, inr, suc}
use Rattle.std.proofs.lemmas.Bool.{cases_Bool, false≢true}
use Rattle.std.proofs.lemmas.Bool.Decides.{nat_tests}
use Rattle.std.proofs.lemmas.Map.Views.{Contains-from_any, list_any-from_Contains}
use Rattle.std.specs.Cmp.{nat_eq_equiv}
use Rattle.std.specs.List.{Contains, list_any}
use Rattle.std.specs.List.Sorted.{IsStrictlyIncreasing}
use native.Mathlib.Numerals.{unary_clauses}
use Rattle.rf_base.specs.declared.decimal.Decimal.{Decimal}
use Rattle.rf_scan.specs.Hot.{hot_frequencies, hot_of, put_in, rising}
use Rattle.rf_scan.specs.declared.point.Point.{Point}
use Rattle.rf_base.proofs.BoolLaws.{or_swap}

abbrev has : ℕ → List ℕ → Bool
has q xs = list_any (nat_eq q) xs

-- each number is at least `low` and above the one before
abbrev Up : ℕ → List ℕ → Type 0
Up low [] = Unit {0}
Up low (x ∷ xs) = (low ≤ x) × Up (x + 1) xs

missing : (low q : ℕ) (xs : List ℕ) → Up low xs → q < low → has q xs ≡ false
missing low q [] up below = refl
missing low q (x ∷ xs) up below =
    let at_least : low ≤ x = up.0 in
    let other : nat_eq q x ≡ false = grind (arith, nat_tests) in
    rw (other, missing (x + 1) q xs up.1 (omega (arith, below, up.0))) refl

later : (low x q : ℕ) (xs ys : List ℕ) → Up (x + 1) xs → Up (x + 1) ys → ((p : ℕ) → has p (x ∷ xs) ≡ has p (x ∷ ys)) → has q xs ≡ has q ys
later low x q xs ys up up' same = elim (cases_Bool (nat_lt q (x + 1))) [
  | inl e ↦ let below : q < x + 1 = grind (arith, nat_tests) in missing (x + 1) q xs up below ∙ sym (missing (x + 1) q ys up' below)
  | inr e ↦ let other : nat_eq q x ≡ false = grind (arith, nat_tests) in rw other at (same q)
]

first : (x : ℕ) (xs : List ℕ) → has x (x ∷ xs) ≡ true
first x xs = let itself : nat_eq x x ≡ true = grind (arith, nat_tests) in rw itself refl

cons : {x y : ℕ} {xs ys : List ℕ} → x ≡ y → xs ≡ ys → x ∷ xs ≡ y ∷ ys
cons is more = rw (is, more) refl

told : (low : ℕ) (xs ys : List ℕ) → Up low xs → Up low ys → ((q : ℕ) → has q xs ≡ has q ys) → xs ≡ ys
told low [] [] up up' same = refl
told low [] (y ∷ ys) up up' same = absurd (false≢true (same y ∙ first y ys))
told low (x ∷ xs) [] up up' same = absurd (false≢true (sym (same x) ∙ first x xs))
told low (x ∷ xs) (y ∷ ys) up up' same = elim (cases_Bool (nat_lt x y)) [
  | inl e ↦ let below : x < y = grind (arith, nat_tests) in
      absurd (false≢true (sym (missing y x (y ∷ ys) (omega arith, up'.1) below) ∙ sym (same x) ∙ first x xs))
  | inr e ↦ elim (cases_Bool (nat_lt y x)) [
    | inl f ↦ let below : y < x = grind (arith, nat_tests) in
        absurd (false≢true (sym (missing x y (x ∷ xs) (omega arith, up.1) below) ∙ same y ∙ first y ys))
    | inr f ↦ let is : x ≡ y = grind (arith, nat_tests) in
        cons is (told (x + 1) xs ys up.1 (rw (← is) at up'.1) (λ q. later low x q xs ys up.1 (rw (← is) at up'.1) (λ p. rw (← is) at (same p))))
  ]
]

Up-put_in : (low x : ℕ) (xs : List ℕ) → low ≤ x → Up low xs → Up low (put_in x xs)
Up-put_in low x [] above up = (above, tt)
Up-put_in low x (y ∷ ys) above up = elim (cases_Bool (nat_lt x y)) [
  | inl e ↦ let below : x < y = grind (arith, nat_tests) in rw e (above, (omega (arith, below), up.1))
  | inr e ↦ elim (cases_Bool (nat_eq x y)) [
    | inl f ↦ rw (e, f) up
    | inr f ↦ let over : y + 1 ≤ x = grind (arith, nat_tests) in rw (e, f) (up.0, Up-put_in (y + 1) x ys over up.1)
  ]
]

twice : (a b : Bool) → (a || b) ≡ (a || (a || b))
twice true b = refl
twice false b = refl

has-put_in : (q x : ℕ) (xs : List ℕ) → has q (put_in x xs) ≡ (nat_eq q x || has q xs)
has-put_in q x [] = refl
has-put_in q x (y ∷ ys) = elim (cases_Bool (nat_lt x y)) [
  | inl e ↦ rw e refl
  | inr e ↦ elim (cases_Bool (nat_eq x y)) [
    | inl f ↦ let is : x ≡ y = grind (arith, nat_tests) in rw (e, f) (rw is (twice (nat_eq q y) (has q ys)))
    | inr f ↦ rw (e, f) (rw (has-put_in q x ys) (or_swap (nat_eq q y) (nat_eq q x) (has q ys)))
  ]
]

Up-rising : (xs : List ℕ) → Up 0 (rising xs)
Up-rising [] = tt
Up-rising (x ∷ xs) = Up-put_in 0 x (rising xs) (omega arith) (Up-rising xs)

has-rising : (q : ℕ) (xs : List ℕ) → has q (rising xs) ≡ has q xs
has-rising q [] = refl
has-rising q (x ∷ xs) = has-put_in q x (rising xs) ∙ rw (has-rising q xs) refl

up_after : (x : ℕ) (xs : List ℕ) → IsStrictlyIncreasing (x ∷ xs) → Up (x + 1) xs
up_after x [] h = tt
up_after x (y ∷ ys) h = (omega (arith, h 0 (omega arith)), up_after y ys (λ k inside. simp unary_clauses (simp unary_clauses at (h (suc k) (omega (arith, inside))))))

up_from : (xs : List ℕ) → IsStrictlyIncreasing xs → Up 0 xs
up_from [] h = tt
up_from (x ∷ xs) h = (omega arith, up_after x xs h)

same_number : (x y : ℕ) → nat_eq x y ≡ true → x ≡ y
same_number x y e = grind (arith, nat_tests)

has_same : (q : ℕ) (xs ys : List ℕ) → Contains xs q ↔ Contains ys q → has q xs ≡ has q ys
has_same q xs ys both = elim (cases_Bool (has q xs)) [
  | inl e ↦ e ∙ sym (list_any-from_Contains nat_eq_equiv q ys (both.0 (Contains-from_any same_number q xs e)))
  | inr e ↦ elim (cases_Bool (has q ys)) [
    | inl f ↦ absurd (false≢true (sym e ∙ list_any-from_Contains nat_eq_equiv q xs (both.1 (Contains-from_any same_number q ys f))))
    | inr f ↦ e ∙ sym f
  ]
]

-- a rising list with these members is the list of the definition
pub is_rising : (hot fs : List ℕ) → IsStrictlyIncreasing hot → ((f : ℕ) → Contains hot f ↔ Contains fs f) → hot ≡ rising fs
is_rising hot fs up members = told 0 hot (rising fs) (up_from hot up) (Up-rising fs) (λ q. has_same q hot fs (members q) ∙ sym (has-rising q fs))

pub hot_of_is : (threshold : Decimal) (points : List Point) (hot : List ℕ) → IsStrictlyIncreasing hot
    → ((f : ℕ) → Contains hot f ↔ Contains (hot_frequencies threshold points) f) → hot ≡ hot_of threshold points
unfolding hot_of
hot_of_is threshold points hot up members = is_rising hot (hot_frequencies threshold points) up members
