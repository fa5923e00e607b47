-- Lemmas on lists of carriers, and on what is found among them.
use Rattle.std.proofs.Common.{◌≡◌, ℕ, suc, zero, Bool, true, false, List, [], ◌∷◌, ◌++◌, map, length, get_or, refl, ap, sym, ◌∙◌, ◌≤◌, ◌<◌, ◌+◌, ◌*◌, ◌^◌, arith, add-one, inl, inr, ◌||◌}
use Rattle.std.specs.Prelude.{All, filter, not, Option}
use Rattle.std.specs.List.{flat_map, list_any}
use Rattle.std.proofs.lemmas.List.{append-nil, append_assoc, map-append, map-id, length-map, length-append, get_or_append_left, get_or_at}
use Rattle.std.proofs.lemmas.List.Concat.{flat_map-append}
use Rattle.std.proofs.lemmas.List.Elements as elements-of
use Rattle.std.proofs.lemmas.List.Elements.{All-cons, filter-append}
use Rattle.std.proofs.lemmas.List.Filters.{length-filter_both}
use Rattle.std.proofs.lemmas.Bool.{cases_lt, or_parts}
use Rattle.std.proofs.lemmas.Nat.{mul-le}
use Rattle.std.proofs.Math.Nat.{pow-suc, pow-zero}
use Rattle.rf_rules.specs.Tuples.{found_in, upto, tuples}
use Rattle.std.proofs.lemmas.List.Folds.{list_any-append, list_any_at}
use Rattle.std.proofs.lemmas.Grind.{elements}
use Rattle.rf_rules.specs.Instances.{AreCarriers}
use mathlib.Core.Bool.{or-false}
use Rattle.rf_base.proofs.ListLaws.{any_flat, any_same, any_map}

-- ---- the numbers below n

pub upto-suc : (n : ℕ) → upto (suc n) ≡ upto n ++ n ∷ []
unfolding upto
upto-suc n = refl

pub length-upto : (n : ℕ) → length (upto n) ≡ n
unfolding upto
length-upto zero = refl
length-upto (suc n) = length-append (upto n) (n ∷ []) ∙ omega (arith, length-upto n)

pub get_or-upto : (n i d : ℕ) → i < n → get_or (upto n) i d ≡ i
unfolding upto
get_or-upto zero i d h = absurd (omega (arith, h))
get_or-upto (suc n) i d h =
    elim (cases_lt i n) [
      | inl p ↦ get_or_append_left (upto n) (n ∷ []) d i (omega (arith, p, length-upto n)) ∙ get_or-upto n i d p
      | inr p ↦ let e : i ≡ n = omega (arith, p, h) in get_or_at (upto n) n [] d i (omega (arith, e, length-upto n)) ∙ sym e
    ]

-- ---- lists by their first elements

-- the lists that begin with one of the firsts and go on with k of the elements
abbrev pub begun : {X : Type 0} → ℕ → List X → List X → List (List X)
begun k xs firsts = flat_map (λ x. map (λ t. x ∷ t) (tuples k xs)) firsts

pub tuples-zero : {X : Type 0} (xs : List X) → tuples 0 xs ≡ [] ∷ []
unfolding tuples
tuples-zero xs = refl

pub tuples-suc : {X : Type 0} (k : ℕ) (xs : List X) → tuples (suc k) xs ≡ begun k xs xs
unfolding tuples
tuples-suc k xs = refl

pub begun-more : (k : ℕ) (xs : List ℕ) (i : ℕ) → begun k xs (upto (suc i)) ≡ begun k xs (upto i) ++ map (λ t. i ∷ t) (tuples k xs)
begun-more k xs i = ap (λ zs. begun k xs zs) (upto-suc i) ∙ flat_map-append (λ x. map (λ t. x ∷ t) (tuples k xs)) (upto i) (i ∷ []) ∙
    ap (λ zs. begun k xs (upto i) ++ zs) (append-nil (map (λ t. i ∷ t) (tuples k xs)))

length-begun : {X : Type 0} (k : ℕ) (xs firsts : List X) → length (begun k xs firsts) ≡ length firsts * length (tuples k xs)
length-begun k xs [] = omega arith
length-begun k xs (x ∷ firsts) =
    let ts = map (λ t. x ∷ t) (tuples k xs) in
    omega (arith, length-append ts (begun k xs firsts), length-map (tuples k xs) (λ t. x ∷ t), length-begun k xs firsts)

pub tuples-few : {X : Type 0} (most k : ℕ) (xs : List X) → length xs ≤ most → length (tuples k xs) ≤ most ^ k
tuples-few most zero xs h = omega (arith, ap length (tuples-zero xs), pow-zero most)
tuples-few most (suc k) xs h =
    omega (arith, ap length (tuples-suc k xs), length-begun k xs xs, mul-le (length xs) (length (tuples k xs)) most (most ^ k) h (tuples-few most k xs h), pow-suc most k)

-- ---- what is found

found-append : {Y : Type 0} (f : List ℕ → Y) (p : List ℕ → Bool) (t : List ℕ) (us vs : List (List ℕ)) → found_in f p t (us ++ vs) ≡ found_in f p t us ++ found_in f p t vs
unfolding found_in
found-append f p t us vs =
    ap (λ zs. map f (filter p zs)) (map-append (λ u. t ++ u) us vs) ∙ ap (map f) (filter-append p (map (λ u. t ++ u) us) (map (λ u. t ++ u) vs)) ∙
    map-append f (filter p (map (λ u. t ++ u) us)) (filter p (map (λ u. t ++ u) vs))

map-into : (t : List ℕ) (c : ℕ) (us : List (List ℕ)) → map (λ u. t ++ u) (map (λ u. c ∷ u) us) ≡ map (λ u. (t ++ c ∷ []) ++ u) us
map-into t c [] = refl
map-into t c (u ∷ us) =
    cc (append_assoc t (c ∷ []) u, map-into t c us)

found-into : {Y : Type 0} (f : List ℕ → Y) (p : List ℕ → Bool) (t : List ℕ) (c : ℕ) (us : List (List ℕ)) → found_in f p t (map (λ u. c ∷ u) us) ≡ found_in f p (t ++ c ∷ []) us
unfolding found_in
found-into f p t c us = ap (λ vs. map f (filter p vs)) (map-into t c us)

-- where no list that goes on so passes, nothing is found
pub found-none : {Y : Type 0} (f : List ℕ → Y) (p : List ℕ → Bool) (t : List ℕ) (us : List (List ℕ)) → ((u : List ℕ) → p (t ++ u) ≡ false) → found_in f p t us ≡ []
unfolding found_in
found-none f p t [] h = refl
found-none f p t (u ∷ us) h = rw (h u) (found-none f p t us h)

-- what is found at one list
pub found-one : {Y : Type 0} (f : List ℕ → Y) (p : List ℕ → Bool) (t : List ℕ) → p t ≡ true → found_in f p t ([] ∷ []) ≡ f t ∷ []
unfolding found_in
found-one f p t h = let e : p (t ++ []) ≡ true = rw append-nil h in rw (e, append-nil t)

pub found-at_none : {Y : Type 0} (f : List ℕ → Y) (p : List ℕ → Bool) (t : List ℕ) → p t ≡ false → found_in f p t ([] ∷ []) ≡ []
unfolding found_in
found-at_none f p t h = let e : p (t ++ []) ≡ false = rw append-nil h in rw e

-- before the first carrier
pub found-start : {Y : Type 0} (f : List ℕ → Y) (p : List ℕ → Bool) (t : List ℕ) (k n : ℕ) → found_in f p t (begun k (upto n) (upto 0)) ≡ []
unfolding found_in upto
found-start f p t k n = refl

-- one carrier more in the next role, after those below it
pub found-more : {Y : Type 0} (f : List ℕ → Y) (p : List ℕ → Bool) (t : List ℕ) (k n i : ℕ) →
    found_in f p t (begun k (upto n) (upto i)) ++ found_in f p (t ++ i ∷ []) (tuples k (upto n)) ≡ found_in f p t (begun k (upto n) (upto (i + 1)))
found-more f p t k n i =
    let us = begun k (upto n) (upto i) in
    let vs = map (λ u. i ∷ u) (tuples k (upto n)) in
    ap (λ zs. found_in f p t us ++ zs) (sym (found-into f p t i (tuples k (upto n)))) ∙ sym (found-append f p t us vs) ∙
    ap (found_in f p t) (sym (begun-more k (upto n) i) ∙ ap (λ j. begun k (upto n) (upto j)) (sym (add-one i)))

-- after the last carrier
pub found-end : {Y : Type 0} (f : List ℕ → Y) (p : List ℕ → Bool) (t : List ℕ) (k n i : ℕ) → i ≡ n → found_in f p t (begun k (upto n) (upto i)) ≡ found_in f p t (tuples (suc k) (upto n))
found-end f p t k n i e = ap (λ j. found_in f p t (begun k (upto n) (upto j))) e ∙ ap (found_in f p t) (sym (tuples-suc k (upto n)))

-- all roles open
pub found-all : {Y : Type 0} (f : List ℕ → Y) (p : List ℕ → Bool) (us : List (List ℕ)) → found_in f p [] us ≡ map f (filter p us)
unfolding found_in
found-all f p us = ap (λ vs. map f (filter p vs)) (map-id us)

pub filter-few : {X : Type 0} (p : X → Bool) (xs : List X) → length (filter p xs) ≤ length xs
filter-few p xs = omega (arith, length-filter_both p (λ t. not (p t)) (λ _. refl) xs)

pub upto-zero : upto 0 ≡ []
unfolding upto
upto-zero = refl

pub map-upto : {Y : Type 0} (f : ℕ → Y) (i : ℕ) → map f (upto (i + 1)) ≡ map f (upto i) ++ f i ∷ []
map-upto f i = ap (λ j. map f (upto j)) (add-one i) ∙ ap (map f) (upto-suc i) ∙ map-append f (upto i) (i ∷ [])

-- a fact of each element, with one element more
pub All-push : {X : Type 0} (P : X → Type 0) (xs : List X) (x : X) → All P xs → P x → All P (xs ++ x ∷ [])
All-push P xs x h p = elements-of.All-push P xs x h p

pub any-zero : (q : ℕ → Bool) → list_any q (upto 0) ≡ false
any-zero q = ap (list_any q) upto-zero

pub any-suc : (q : ℕ → Bool) (i : ℕ) → list_any q (upto (suc i)) ≡ (list_any q (upto i) || q i)
any-suc q i = ap (list_any q) (upto-suc i) ∙ list_any-append q (upto i) (i ∷ []) ∙ ap (λ b. list_any q (upto i) || b) (or-false (q i))

pub each-no : {X : Type 0} (p : X → Bool) (xs : List X) → list_any p xs ≡ false → All (λ x. p x ≡ false) xs
each-no p [] h = λ k d low. absurd (omega (arith, low))
each-no p (x ∷ xs) h = let both = or_parts (p x) (list_any p xs) h in All-cons (λ y. p y ≡ false) x xs both.0 (each-no p xs both.1)

pub any-out : (q : ℕ → Bool) (n i : ℕ) → list_any q (upto n) ≡ false → i < n → q i ≡ false
any-out q n i h low = rw (get_or-upto n i 0 low) at (each-no q (upto n) h i 0 (omega (arith, length-upto n, low)))

pub any-found : (q : ℕ → Bool) (n i : ℕ) → i < n → q i ≡ true → list_any q (upto n) ≡ true
any-found q n i h p = list_any_at q (upto n) i 0 (omega (arith, length-upto n, h)) (rw (get_or-upto n i 0 h) p)

-- by the first element
pub any-first : (p : List ℕ → Bool) (k : ℕ) (xs : List ℕ) → list_any p (tuples (suc k) xs) ≡ list_any (λ c. list_any (λ u. p (c ∷ u)) (tuples k xs)) xs
any-first p k xs =
    ap (list_any p) (tuples-suc k xs) ∙ any_flat p (λ c. map (λ u. c ∷ u) (tuples k xs)) xs
    ∙ any_same (λ c. list_any p (map (λ u. c ∷ u) (tuples k xs))) (λ c. list_any (λ u. p (c ∷ u)) (tuples k xs)) xs (λ c. any_map p (λ u. c ∷ u) (tuples k xs))

pub any-empty : (p : List ℕ → Bool) (xs : List ℕ) → list_any p (tuples 0 xs) ≡ p []
any-empty p xs = ap (list_any p) (tuples-zero xs) ∙ or-false (p [])

pub AreCarriers-push : (ats : List (Option ℕ)) (t : List ℕ) (c : ℕ) → AreCarriers ats t → c < length ats → AreCarriers ats (t ++ c ∷ [])
AreCarriers-push ats t c h p = grind (arith, elements)

-- none of those below i, nor i
pub any-more : (q : ℕ → Bool) (i j : ℕ) → j ≡ suc i → list_any q (upto i) ≡ false → q i ≡ false → list_any q (upto j) ≡ false
any-more q i j e h p = rw e (any-suc q i ∙ rw (h, p) refl)

pub any-none : (q : ℕ → Bool) (n : ℕ) → ((i : ℕ) → i < n → q i ≡ false) → list_any q (upto n) ≡ false
any-none q zero h = any-zero q
any-none q (suc n) h = any-more q n (suc n) refl (any-none q n (λ i low. h i (omega (arith, low)))) (h n (omega arith))
