use Rattle.std.proofs.Common.{◌≡◌, ℕ, zero, suc, ◌+◌, ◌<◌, ◌≤◌, Bool, true, false, not, ◌&&◌, ◌||◌, cond, List, [], ◌∷◌, map, length, get_or, find, Some, is_some, Option, refl}
use Rattle.std.proofs.Common.{ap, sym, ◌∙◌, arith}
use Rattle.std.specs.List.{list_all, list_any, position_or_len}
use Rattle.std.proofs.lemmas.Bool.{or_parts, and_from, and_parts}
use Rattle.std.proofs.lemmas.List.{length-map}
use Rattle.rf_show.specs.After.{change_first, remove_first}
use Rattle.rf_base.proofs.BoolLaws.{or_more}

-- ---- what a change of the first element leaves

map_cond : {X Y : Type 0} (b : Bool) (g : X → Y) (x y : X) (xs ys : List X) (zs : List Y) → g y ≡ g x → map g ys ≡ zs → map g xs ≡ zs → map g (cond b (y ∷ xs) (x ∷ ys)) ≡ g x ∷ zs
map_cond true g x y xs ys zs e h k = ap (λ z. z ∷ map g xs) e ∙ ap (λ q. g x ∷ q) k
map_cond false g x y xs ys zs e h k = ap (λ q. g x ∷ q) h

pub map-change_first : {X Y : Type 0} (g : X → Y) (p : X → Bool) (f : X → X) (xs : List X) → ((x : X) → g (f x) ≡ g x) → map g (change_first p f xs) ≡ map g xs
map-change_first g p f [] e = refl
map-change_first g p f (x ∷ xs) e = map_cond (p x) g x (f x) xs (change_first p f xs) (map g xs) (e x) (map-change_first g p f xs e) refl

pub length-change_first : {X : Type 0} (p : X → Bool) (f : X → X) (xs : List X) → length (change_first p f xs) ≡ length xs
length-change_first {X} p f xs =
    let none : X → ℕ = λ x. 0 in
    sym (length-map (change_first p f xs) none) ∙ ap length (map-change_first none p f xs (λ x. refl)) ∙ length-map xs none

all_cond : {X : Type 0} (b : Bool) (q : X → Bool) (x y : X) (xs ys : List X) → q y ≡ q x → list_all q ys ≡ list_all q xs → list_all q (cond b (y ∷ xs) (x ∷ ys)) ≡ (q x && list_all q xs)
all_cond true q x y xs ys e h = ap (λ z. z && list_all q xs) e
all_cond false q x y xs ys e h = ap (λ z. q x && z) h

pub list_all-change_first : {X : Type 0} (q : X → Bool) (p : X → Bool) (f : X → X) (xs : List X) → ((x : X) → q (f x) ≡ q x) → list_all q (change_first p f xs) ≡ list_all q xs
list_all-change_first q p f [] e = refl
list_all-change_first q p f (x ∷ xs) e = all_cond (p x) q x (f x) xs (change_first p f xs) (e x) (list_all-change_first q p f xs e)

kept_cond : {X : Type 0} (b : Bool) (q : X → Bool) (f : X → X) (x : X) (xs ys : List X) → (q x && list_all q xs) ≡ true →
    (b ≡ true → q (f x) ≡ true) → (b ≡ false → list_all q ys ≡ true) → list_all q (cond b (f x ∷ xs) (x ∷ ys)) ≡ true
kept_cond true q f x xs ys h now rest = and_from _ _ (now refl) (and_parts _ _ h).1
kept_cond false q f x xs ys h now rest = and_from _ _ (and_parts _ _ h).0 (rest refl)

find_head : {X : Type 0} (p : X → Bool) (x : X) (xs : List X) → p x ≡ true → find p (x ∷ xs) ≡ Some x
find_head p x xs e = ap (λ b. cond b (Some x) (find p xs)) e

find_tail : {X : Type 0} (p : X → Bool) (x : X) (xs : List X) → p x ≡ false → find p (x ∷ xs) ≡ find p xs
find_tail p x xs e = ap (λ b. cond b (Some x) (find p xs)) e

-- what holds of all still holds where it holds of the one that is changed
pub list_all-change_found : {X : Type 0} (q : X → Bool) (p : X → Bool) (f : X → X) (xs : List X) → list_all q xs ≡ true →
    ((x : X) → find p xs ≡ Some x → q x ≡ true → q (f x) ≡ true) → list_all q (change_first p f xs) ≡ true
list_all-change_found q p f [] h e = refl
list_all-change_found q p f (x ∷ xs) h e =
    kept_cond (p x) q f x xs (change_first p f xs) h
    (λ b. e x (find_head p x xs b) (and_parts _ _ h).0)
    (λ b. list_all-change_found q p f xs (and_parts _ _ h).1 (λ y found. e y (find_tail p x xs b ∙ found)))

-- ---- what a removal of the first element leaves

length_cond : {X : Type 0} (b : Bool) (x : X) (xs ys : List X) → length ys ≤ length xs → length (cond b xs (x ∷ ys)) ≤ suc (length xs)
length_cond true x xs ys h = omega arith
length_cond false x xs ys h = omega arith

pub length-remove_first : {X : Type 0} (p : X → Bool) (xs : List X) → length (remove_first p xs) ≤ length xs
length-remove_first p [] = omega arith
length-remove_first p (x ∷ xs) = length_cond (p x) x xs (remove_first p xs) (length-remove_first p xs)

all_left : {X : Type 0} (b : Bool) (q : X → Bool) (x : X) (xs ys : List X) → (q x && list_all q xs) ≡ true → (list_all q xs ≡ true → list_all q ys ≡ true) → list_all q (cond b xs (x ∷ ys)) ≡ true
all_left true q x xs ys h k = (and_parts _ _ h).1
all_left false q x xs ys h k = and_from _ _ (and_parts _ _ h).0 (k (and_parts _ _ h).1)

pub list_all-remove_first : {X : Type 0} (q : X → Bool) (p : X → Bool) (xs : List X) → list_all q xs ≡ true → list_all q (remove_first p xs) ≡ true
list_all-remove_first q p [] h = refl
list_all-remove_first q p (x ∷ xs) h = all_left (p x) q x xs (remove_first p xs) h (list_all-remove_first q p xs)

any_left : {X : Type 0} (b : Bool) (q : X → Bool) (x : X) (xs ys : List X) → (b ≡ true → q x ≡ false) →
    (q x || list_any q xs) ≡ true → (list_any q xs ≡ true → list_any q ys ≡ true) → list_any q (cond b xs (x ∷ ys)) ≡ true
any_left true q x xs ys n h k = sym (ap (λ z. z || list_any q xs) (n refl)) ∙ h
any_left false q x xs ys n h k = or_more (q x) (list_any q xs) (list_any q ys) h k

-- an element that isn't removed is still there
pub list_any-remove_first : {X : Type 0} (q : X → Bool) (p : X → Bool) (xs : List X) → ((x : X) → p x ≡ true → q x ≡ false) → list_any q xs ≡ true → list_any q (remove_first p xs) ≡ true
list_any-remove_first q p [] n h = cc
list_any-remove_first q p (x ∷ xs) n h = any_left (p x) q x xs (remove_first p xs) (n x) h (list_any-remove_first q p xs n)

none_cond : {X : Type 0} (b : Bool) (q : X → Bool) (x : X) (xs ys : List X) → (q x || list_any q xs) ≡ false → (list_any q xs ≡ false → list_any q ys ≡ false) → list_any q (cond b xs (x ∷ ys)) ≡ false
none_cond true q x xs ys h k = (or_parts (q x) _ h).1
none_cond false q x xs ys h k = ap (λ z. z || list_any q ys) (or_parts (q x) _ h).0 ∙ k (or_parts (q x) _ h).1

pub none-remove_first : {X : Type 0} (q : X → Bool) (p : X → Bool) (xs : List X) → list_any q xs ≡ false → list_any q (remove_first p xs) ≡ false
none-remove_first q p [] h = refl
none-remove_first q p (x ∷ xs) h = none_cond (p x) q x xs (remove_first p xs) h (none-remove_first q p xs)

-- ---- finding

find_cond : {X : Type 0} (b : Bool) (x : X) (r : Option X) (c : Bool) → is_some r ≡ c → is_some (cond b (Some x) r) ≡ (b || c)
find_cond true x r c h = refl
find_cond false x r c h = h

pub find_any : {X : Type 0} (p : X → Bool) (xs : List X) → is_some (find p xs) ≡ list_any p xs
find_any p [] = refl
find_any p (x ∷ xs) = find_cond (p x) x (find p xs) (list_any p xs) (find_any p xs)

found_cond : {X : Type 0} (p : X → Bool) (x : X) (xs : List X) (i : ℕ) (c : X) (b : Bool) → i ≡ cond (not b) (1 + position_or_len p xs) 0 → i < suc (length xs) →
    c ≡ get_or (x ∷ xs) i c → ((j : ℕ) → j ≡ position_or_len p xs → j < length xs → c ≡ get_or xs j c → find p xs ≡ Some c) → cond b (Some x) (find p xs) ≡ Some c
found_cond p x xs zero c true e h v rest = ap Some (sym v)
found_cond p x xs (suc i) c true e h v rest = absurd (omega arith)
found_cond p x xs zero c false e h v rest = absurd (omega arith)
found_cond p x xs (suc i) c false e h v rest = rest i (omega arith) (omega arith) v

-- what is at the first place is what is found
pub find_at : {X : Type 0} (p : X → Bool) (xs : List X) (i : ℕ) (c : X) → i ≡ position_or_len p xs → i < length xs → c ≡ get_or xs i c → find p xs ≡ Some c
find_at p [] i c e h v = absurd (omega arith)
find_at p (x ∷ xs) i c e h v = found_cond p x xs i c (p x) e h v (λ j. find_at p xs j c)
