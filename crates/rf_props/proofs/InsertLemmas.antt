-- A list with one element put in.
use Rattle.std.proofs.Common.{◌≡◌, ◌∙◌, ℕ, zero, suc, ◌+◌, ◌<◌, ◌≤◌, Bool, true, false, not, List, [], ◌∷◌, ◌++◌, ◌==◌, ◌⊎◌, length, get_or, refl, sym, ap, inl, inr, arith}
use Rattle.std.specs.Prelude.{insert}
use Rattle.std.specs.List.{list_all, remove}
use Rattle.std.proofs.lemmas.Bool.{cases_Bool, cases_eq, and_parts, and_from, not-true, true≢false}
use Rattle.std.proofs.lemmas.Bool.Decides.{nat_tests}
use Rattle.rf_log.specs.Case.{is_among, are_distinct}

pub length_insert : {X : Type 0} (xs : List X) (i : ℕ) (x : X) → length (insert xs i x) ≡ suc (length xs)
length_insert [] zero x = refl
length_insert [] (suc i) x = refl
length_insert (y ∷ ys) zero x = refl
length_insert (y ∷ ys) (suc i) x = ap suc (length_insert ys i x)

-- what stands behind the new element
pub get_insert : (xs : List ℕ) (i x n : ℕ) → i ≤ n → n < length xs → get_or (insert xs i x) (suc n) 0 ≡ get_or xs n 0
get_insert [] i x n after known = absurd (omega arith)
get_insert (y ∷ ys) zero x n after known = refl
get_insert (y ∷ ys) (suc i) x zero after known = absurd (omega arith)
get_insert (y ∷ ys) (suc i) x (suc n) after known = get_insert ys i x n (omega arith) (omega arith)

pub all_in_insert : (p : ℕ → Bool) (xs : List ℕ) (i x : ℕ) → list_all p (insert xs i x) ≡ true → (p x ≡ true) × (list_all p xs ≡ true)
all_in_insert p [] zero x all = and_parts (p x) true all
all_in_insert p [] (suc i) x all = and_parts (p x) true all
all_in_insert p (y ∷ ys) zero x all = and_parts (p x) _ all
all_in_insert p (y ∷ ys) (suc i) x all =
    let parts = and_parts (p y) (list_all p (insert ys i x)) all in
    let rest = all_in_insert p ys i x parts.1 in
    (rest.0, and_from (p y) (list_all p ys) parts.0 rest.1)

pub all_insert : (p : ℕ → Bool) (xs : List ℕ) (i x : ℕ) → p x ≡ true → list_all p xs ≡ true → list_all p (insert xs i x) ≡ true
all_insert p [] zero x here all = and_from (p x) true here refl
all_insert p [] (suc i) x here all = and_from (p x) true here refl
all_insert p (y ∷ ys) zero x here all = and_from (p x) _ here all
all_insert p (y ∷ ys) (suc i) x here all =
    let parts = and_parts (p y) (list_all p ys) all in
    and_from (p y) _ parts.0 (all_insert p ys i x here parts.1)

among_inserted : (xs : List ℕ) (i x : ℕ) → is_among (insert xs i x) x ≡ true
among_inserted [] zero x = grind (arith, nat_tests)
among_inserted [] (suc i) x = grind (arith, nat_tests)
among_inserted (y ∷ ys) zero x = grind (arith, nat_tests)
among_inserted (y ∷ ys) (suc i) x = let rest : is_among (insert ys i x) x ≡ true = among_inserted ys i x in grind (arith, nat_tests)

-- where the list is distinct, the new element isn't among the others
pub distinct_insert : (xs : List ℕ) (i x : ℕ) → are_distinct (insert xs i x) ≡ true → is_among xs x ≡ false
distinct_insert [] i x distinct = refl
distinct_insert (y ∷ ys) zero x distinct = not-true (is_among (y ∷ ys) x) (and_parts (not (is_among (y ∷ ys) x)) (are_distinct (y ∷ ys)) distinct).0
distinct_insert (y ∷ ys) (suc i) x distinct =
    let parts = and_parts (not (is_among (insert ys i x) y)) (are_distinct (insert ys i x)) distinct in
    let apart : is_among (insert ys i x) y ≡ false = not-true _ parts.0 in
    let rest : is_among ys x ≡ false = distinct_insert ys i x parts.1 in
    elim (cases_eq y x) [
      | inl e ↦ absurd (true≢false (sym (among_inserted ys i x) ∙ ap (is_among (insert ys i x)) (sym e) ∙ apart))
      | inr e ↦ grind (arith, nat_tests)
    ]

among_insert : (xs : List ℕ) (i x y : ℕ) → is_among xs y ≡ true → is_among (insert xs i x) y ≡ true
among_insert [] zero x y among = grind (arith, nat_tests)
among_insert [] (suc i) x y among = grind (arith, nat_tests)
among_insert (z ∷ zs) zero x y among = grind (arith, nat_tests)
among_insert (z ∷ zs) (suc i) x y among = elim (cases_Bool (z == y)) [
  | inl here ↦ rw here
  | inr other ↦
      let rest : is_among zs y ≡ true = rw other at among in
      rw other (among_insert zs i x y rest)
]

-- one of the list that is not the new element is one of the others
pub among_others : (xs : List ℕ) (i x y : ℕ) → is_among (insert xs i x) y ≡ true → (y == x) ≡ false → is_among xs y ≡ true
among_others [] zero x y among other = grind (arith, nat_tests)
among_others [] (suc i) x y among other = grind (arith, nat_tests)
among_others (z ∷ zs) zero x y among other = grind (arith, nat_tests)
among_others (z ∷ zs) (suc i) x y among other = elim (cases_Bool (z == y)) [
  | inl here ↦ rw here
  | inr apart ↦
      let rest : is_among (insert zs i x) y ≡ true = rw apart at among in
      rw apart (among_others zs i x y rest other)
]

-- the others are distinct too
pub distinct_others : (xs : List ℕ) (i x : ℕ) → are_distinct (insert xs i x) ≡ true → are_distinct xs ≡ true
distinct_others [] i x distinct = refl
distinct_others (y ∷ ys) zero x distinct = (and_parts (not (is_among (y ∷ ys) x)) (are_distinct (y ∷ ys)) distinct).1
distinct_others (y ∷ ys) (suc i) x distinct =
    let parts = and_parts (not (is_among (insert ys i x) y)) (are_distinct (insert ys i x)) distinct in
    and_from (not (is_among ys y)) (are_distinct ys) (apart (cases_Bool (is_among ys y)) (not-true _ parts.0)) (distinct_others ys i x parts.1)
  where
    apart : (is_among ys y ≡ true) ⊎ (is_among ys y ≡ false) → is_among (insert ys i x) y ≡ false → not (is_among ys y) ≡ true
    apart (inl among) off = absurd (true≢false (sym (among_insert ys i x y among) ∙ off))
    apart (inr off) _ = rw off

-- one that stands among the first stands twice
pub not_distinct : (xs rest : List ℕ) (c : ℕ) → is_among xs c ≡ true → are_distinct ((xs ++ c ∷ []) ++ rest) ≡ true → ⊥
not_distinct [] rest c none distinct = true≢false (sym none)
not_distinct (x ∷ xs) rest c among distinct =
    let parts = and_parts (not (is_among ((xs ++ c ∷ []) ++ rest) x)) (are_distinct ((xs ++ c ∷ []) ++ rest)) distinct in
    elim (cases_eq x c) [
      | inl e ↦ true≢false (sym (stands xs rest c) ∙ ap (is_among ((xs ++ c ∷ []) ++ rest)) (sym e) ∙ not-true _ parts.0)
      | inr e ↦ let later : is_among xs c ≡ true = grind (arith, nat_tests) in not_distinct xs rest c later parts.1
    ]
  where
    stands : (ys rest : List ℕ) (c : ℕ) → is_among ((ys ++ c ∷ []) ++ rest) c ≡ true
    stands [] rest c = grind (arith, nat_tests)
    stands (y ∷ ys) rest c = elim (cases_Bool (y == c)) [ inl here ↦ rw here | inr other ↦ rw other (stands ys rest c) ]

pub insert_remove : (xs : List ℕ) (i d : ℕ) → i < length xs → insert (remove xs i) i (get_or xs i d) ≡ xs
insert_remove [] i d known = absurd (omega arith)
insert_remove (y ∷ ys) zero d known = refl
insert_remove (y ∷ ys) (suc i) d known = ap (λ zs. y ∷ zs) (insert_remove ys i d (omega arith))

pub length_remove : (xs : List ℕ) (i : ℕ) → i < length xs → length (remove xs i) + 1 ≡ length xs
length_remove [] i known = absurd (omega arith)
length_remove (y ∷ ys) zero known = omega arith
length_remove (y ∷ ys) (suc i) known = let rest : length (remove ys i) + 1 ≡ length ys = length_remove ys i (omega arith) in omega (arith, rest)
