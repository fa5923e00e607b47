use Rattle.std.proofs.Common.{◌≡◌, ℕ, zero, suc, ◌+◌, ◌<◌, ◌≤◌, Bool, true, false, not, cond, Some, IsSome, List, [], ◌∷◌, length, get_or, set, insert, remove, find, position, refl, ap}
use Rattle.std.proofs.Common.{sym, arith}
use Rattle.std.specs.List.{position_or_len, list_all}
use Rattle.std.proofs.lemmas.Bool.{lt-ltb, and_from, and_parts}
use Rattle.rf_show.specs.After.{change_first, remove_first}

pub remove_insert : {X : Type 0} (xs : List X) (i : ℕ) (y : X) → i ≤ length xs → remove (insert xs i y) i ≡ xs
remove_insert xs zero y h = refl
remove_insert [] (suc i) y h = absurd (omega arith)
remove_insert (x ∷ xs) (suc i) y h = ap (λ q. x ∷ q) (remove_insert xs i y (omega arith))

pub set_back : {X : Type 0} (xs : List X) (i : ℕ) (y z : X) → i < length xs → y ≡ get_or xs i y → set (set xs i z) i y ≡ xs
set_back [] i y z h e = absurd (omega arith)
set_back (x ∷ xs) zero y z h e = ap (λ q. q ∷ xs) e
set_back (x ∷ xs) (suc i) y z h e = ap (λ q. x ∷ q) (set_back xs i y z (omega arith) e)

-- ---- the first element that passes

change_cons : {X : Type 0} (p : X → Bool) (f : X → X) (x : X) (xs : List X) (i : ℕ) (c : X) (b : Bool) → i ≡ cond (not b) (1 + position_or_len p xs) 0 → i < suc (length xs) → c ≡ get_or (x ∷ xs) i c →
    ((j : ℕ) → j ≡ position_or_len p xs → j < length xs → c ≡ get_or xs j c → change_first p f xs ≡ set xs j (f c)) → cond b (f x ∷ xs) (x ∷ change_first p f xs) ≡ set (x ∷ xs) i (f c)
change_cons p f x xs zero c true e h v rest = ap (λ y. f y ∷ xs) (sym v)
change_cons p f x xs (suc i) c true e h v rest = absurd (omega arith)
change_cons p f x xs zero c false e h v rest = absurd (omega arith)
change_cons p f x xs (suc i) c false e h v rest = ap (λ q. x ∷ q) (rest i (omega arith) (omega arith) v)

pub change_first_at : {X : Type 0} (p : X → Bool) (f : X → X) (xs : List X) (i : ℕ) (c : X) → i ≡ position_or_len p xs → i < length xs → c ≡ get_or xs i c → change_first p f xs ≡ set xs i (f c)
change_first_at p f [] i c e h v = absurd (omega arith)
change_first_at p f (x ∷ xs) i c e h v = change_cons p f x xs i c (p x) e h v (λ j. change_first_at p f xs j c)

remove_cons : {X : Type 0} (p : X → Bool) (x : X) (xs : List X) (i : ℕ) (b : Bool) → i ≡ cond (not b) (1 + position_or_len p xs) 0 → i < suc (length xs) →
    ((j : ℕ) → j ≡ position_or_len p xs → j < length xs → remove_first p xs ≡ remove xs j) → cond b xs (x ∷ remove_first p xs) ≡ remove (x ∷ xs) i
remove_cons p x xs zero true e h rest = refl
remove_cons p x xs (suc i) true e h rest = absurd (omega arith)
remove_cons p x xs zero false e h rest = absurd (omega arith)
remove_cons p x xs (suc i) false e h rest = ap (λ q. x ∷ q) (rest i (omega arith) (omega arith))

pub remove_first_at : {X : Type 0} (p : X → Bool) (xs : List X) (i : ℕ) → i ≡ position_or_len p xs → i < length xs → remove_first p xs ≡ remove xs i
remove_first_at p [] i e h = absurd (omega arith)
remove_first_at p (x ∷ xs) i e h = remove_cons p x xs i (p x) e h (λ j. remove_first_at p xs j)

found_cons : {X : Type 0} (p : X → Bool) (x : X) (xs : List X) (b : Bool) → IsSome (cond b (Some x) (find p xs)) →
    (IsSome (find p xs) → position_or_len p xs < length xs) → cond (not b) (1 + position_or_len p xs) 0 < suc (length xs)
found_cons p x xs true h rest = omega arith
found_cons p x xs false h rest = omega (arith, rest h)

-- what is found has a place
pub found_place : {X : Type 0} (p : X → Bool) (xs : List X) → IsSome (find p xs) → position_or_len p xs < length xs
found_place p [] h = cc
found_place p (x ∷ xs) h = found_cons p x xs (p x) h (found_place p xs)

pub found_position : {X : Type 0} (p : X → Bool) (xs : List X) → IsSome (find p xs) → position p xs ≡ Some (position_or_len p xs)
found_position p xs h = rw (lt-ltb _ _ (found_place p xs h)) refl

-- ---- what holds of each element

pub list_all-remove : {X : Type 0} (q : X → Bool) (xs : List X) (i : ℕ) → list_all q xs ≡ true → list_all q (remove xs i) ≡ true
list_all-remove q [] zero h = refl
list_all-remove q [] (suc i) h = refl
list_all-remove q (x ∷ xs) zero h = (and_parts _ _ h).1
list_all-remove q (x ∷ xs) (suc i) h = and_from _ _ (and_parts _ _ h).0 (list_all-remove q xs i (and_parts _ _ h).1)

pub list_all-wider : {X : Type 0} (q r : X → Bool) (xs : List X) → ((x : X) → q x ≡ true → r x ≡ true) → list_all q xs ≡ true → list_all r xs ≡ true
list_all-wider q r [] w h = refl
list_all-wider q r (x ∷ xs) w h = and_from _ _ (w x (and_parts _ _ h).0) (list_all-wider q r xs w (and_parts _ _ h).1)

-- ---- options

pub some_is : {X : Type 0} (a b : X) → Some a ≡ Some b → a ≡ b
some_is a b h = cc

pub not_false : (b : Bool) → not b ≡ false → b ≡ true
not_false true h = refl
not_false false h = cc
