-- Tests over lists, and lists that are split, joined and filled.
use Rattle.std.proofs.Common.{◌≡◌, ◌<◌, ℕ, true, List, get_or, arith, Bool, ◌||◌, ◌∷◌, map, refl, ap, [], ◌∙◌, length, ◌+◌, ◌++◌, suc, take, zero, false, sym, is_some, position, slice_get}
use Rattle.std.proofs.Common.{Some, drop, None, ◌&&◌, All, nat_lt, slice_index_or, insert, ltb-true, true≢false}
use Rattle.std.specs.List.{list_all, list_any, position_or_len, slice_split, flat_map}
use Rattle.std.proofs.lemmas.Bool.Decides.{nat_tests}
use Rattle.std.proofs.lemmas.List.Sums.{list_all-from_AllPass}
use Rattle.std.proofs.lemmas.Bool.{and_parts}
use Rattle.std.proofs.lemmas.List.Elements.{All-cons, All-nil}
use Rattle.std.proofs.lemmas.Grind.{common_steps}
use Rattle.std.proofs.lemmas.List.Splits.{slice_split_first, slice_split-cons_no}
use Rattle.std.proofs.lemmas.List.Folds.{list_any-append}
use Rattle.rf_base.proofs.OptionLaws.{some_cond}
use Rattle.rf_base.proofs.BoolLaws.{and_cross}

-- numbers that are below n by the test
pub tested_below : (n : ℕ) (set : List ℕ) → All (λ c. c < n) set → list_all (λ c. nat_lt c n) set ≡ true
tested_below n set below =
    list_all-from_AllPass (λ c. nat_lt c n) set (λ k d low. let h : get_or set k d < n = below k d low in grind (arith, nat_tests, h))

pub any_map : {X Y : Type 0} (p : Y → Bool) (f : X → Y) (xs : List X) → list_any p (map f xs) ≡ list_any (λ x. p (f x)) xs
any_map p f [] = refl
any_map p f (x ∷ xs) = ap (λ b. p (f x) || b) (any_map p f xs)

pub all_below : (n : ℕ) (roles : List ℕ) → list_all (λ c. nat_lt c n) roles ≡ true → All (λ c. c < n) roles
all_below n [] h = All-nil (λ c. c < n)
all_below n (c ∷ cs) h =
    let parts = and_parts (nat_lt c n) _ h in
    All-cons (λ d. d < n) c cs (ltb-true c n parts.0) (all_below n cs parts.1)

pub any_same : {X : Type 0} (p q : X → Bool) (xs : List X) → ((x : X) → p x ≡ q x) → list_any p xs ≡ list_any q xs
any_same p q [] e = refl
any_same p q (x ∷ xs) e = ap (λ z. z || list_any p xs) (e x) ∙ ap (λ z. q x || z) (any_same p q xs e)

-- a place is found where an element passes
pub place_any : {X : Type 0} (p : X → Bool) (xs : List X) → nat_lt (position_or_len p xs) (length xs) ≡ list_any p xs
place_any p [] = refl
place_any p (x ∷ xs) = grind (arith, common_steps, place_any p xs)

pub take_past : (xs ys : List ℕ) (k : ℕ) → xs ++ take k ys ≡ take (length xs + k) (xs ++ ys)
take_past [] ys k = let none : k ≡ 0 + k = omega arith in ap (λ n. take n ys) none
take_past (x ∷ xs) ys k =
    let one : suc (length xs + k) ≡ suc (length xs) + k = omega arith in
    ap (λ zs. x ∷ zs) (take_past xs ys k) ∙ ap (λ n. take n (x ∷ (xs ++ ys))) one

pub flag_low : (set : List Bool) (k : ℕ) → slice_index_or set k false ≡ true → k < length set
flag_low [] k here = absurd (true≢false (sym here))
flag_low (b ∷ bs) zero here = omega arith
flag_low (b ∷ bs) (suc k) here = let rest : k < length bs = flag_low bs k here in omega (arith, rest)

pub map_insert : {X Y : Type 0} (f : X → Y) (xs : List X) (i : ℕ) (x : X) → map f (insert xs i x) ≡ insert (map f xs) i (f x)
map_insert f [] zero x = refl
map_insert f [] (suc i) x = refl
map_insert f (y ∷ ys) zero x = refl
map_insert f (y ∷ ys) (suc i) x = ap (λ zs. f y ∷ zs) (map_insert f ys i x)

pub position_any : {X : Type 0} (p : X → Bool) (xs : List X) → is_some (position p xs) ≡ list_any p xs
position_any p xs = some_cond (nat_lt (position_or_len p xs) (length xs)) (position_or_len p xs) ∙ place_any p xs

pub get_left : {X : Type 0} (xs ys : List X) (k : ℕ) (x : X) → slice_get xs k ≡ Some x → slice_get (xs ++ ys) k ≡ Some x
get_left [] ys k x h = cc
get_left (y ∷ xs) ys zero x h = h
get_left (y ∷ xs) ys (suc k) x h = get_left xs ys k x h

pub take_word : (word rest : List ℕ) → take (length word) (word ++ rest) ≡ word
take_word word rest = grind (arith, common_steps)

-- the first part ends before the place of the first element that passes
pub first_part : (p : ℕ → Bool) (xs : List ℕ) (i : ℕ) → position p xs ≡ Some i → slice_split p xs ≡ take i xs ∷ slice_split p (drop (i + 1) xs)
first_part p xs i h = grind (arith, nat_tests, slice_split_first p xs 0)

-- where no element passes, all is one part
pub only_part : (p : ℕ → Bool) (xs : List ℕ) → position p xs ≡ None → slice_split p xs ≡ xs ∷ []
only_part p [] h = refl
only_part p (x ∷ xs) h = grind (arith, nat_tests, only_part p xs, slice_split-cons_no p)

-- what passes in some list is one whose test says so
pub any_never : {X : Type 0} (p : X → Bool) (xs : List X) → ((x : X) → p x ≡ false) → list_any p xs ≡ false
any_never p [] h = refl
any_never p (x ∷ xs) h = ap (λ b. b || list_any p xs) (h x) ∙ any_never p xs h

pub any_flat : {X Y : Type 0} (p : Y → Bool) (f : X → List Y) (xs : List X) → list_any p (flat_map f xs) ≡ list_any (λ x. list_any p (f x)) xs
any_flat p f [] = refl
any_flat p f (x ∷ xs) = list_any-append p (f x) (flat_map f xs) ∙ ap (λ b. list_any p (f x) || b) (any_flat p f xs)

pub flat_same : {X Y : Type 0} (f g : X → List Y) (xs : List X) → ((x : X) → f x ≡ g x) → flat_map f xs ≡ flat_map g xs
flat_same f g [] h = refl
flat_same f g (x ∷ xs) h = ap (λ zs. zs ++ flat_map f xs) (h x) ∙ ap (λ zs. g x ++ zs) (flat_same f g xs h)

pub all_both : {X : Type 0} (p q : X → Bool) (xs : List X) → list_all (λ x. p x && q x) xs ≡ (list_all p xs && list_all q xs)
all_both p q [] = refl
all_both p q (x ∷ xs) = and_cross (p x) (q x) (list_all p xs) (list_all q xs) _ (all_both p q xs)

pub all_same : {X : Type 0} (p q : X → Bool) (xs : List X) → ((x : X) → p x ≡ q x) → list_all p xs ≡ list_all q xs
all_same p q [] h = refl
all_same p q (x ∷ xs) h = rw (h x, all_same p q xs h) refl
