-- Lemmas on lists that rise by a number: they are their groups of one number, one after the other.
use Rattle.std.proofs.Common.{◌≡◌, ◌≤◌, ◌<◌, ◌+◌, ℕ, suc, zero, Bool, true, false, List, [], ◌∷◌, ◌++◌, map, get_or, refl, ap, sym, ◌∙◌, arith, add-one, inl, inr, All, filter, nat_lt, ◌==◌}
use Rattle.std.proofs.Common.{◌&&◌, append-nil}
use Rattle.std.specs.List.{flat_map}
use Rattle.std.specs.List.Sorted.{IsNonDecreasingBy}
use Rattle.std.proofs.lemmas.Bool.{cases_Bool}
use Rattle.std.proofs.lemmas.Bool.Decides.{nat_tests}
use Rattle.std.proofs.lemmas.List.Concat.{flat_map-append}
use Rattle.std.proofs.lemmas.List.Elements.{All-filter, filter-append, filter_passes}
use Rattle.std.proofs.lemmas.List.Kept.{IsNonDecreasingBy-filter}
use Rattle.rf_rules.specs.Tuples.{upto}
use Rattle.rf_rules.proofs.TupleLaws.{map-upto, upto-zero}

-- ---- filters

pub filter-same : {X : Type 0} (p q : X → Bool) (xs : List X) → ((x : X) → p x ≡ q x) → filter p xs ≡ filter q xs
filter-same p q [] h = refl
filter-same p q (x ∷ xs) h = rw (h x, filter-same p q xs h) refl

pub filter-twice : {X : Type 0} (p q : X → Bool) (xs : List X) → filter p (filter q xs) ≡ filter (λ x. q x && p x) xs
filter-twice p q [] = refl
filter-twice p q (x ∷ xs) = grind (arith, filter-twice p q xs)

-- what passes none of a list
pub filter-none : {X : Type 0} (p : X → Bool) (xs : List X) → All (λ x. p x ≡ false) xs → filter p xs ≡ []
filter-none p [] h = refl
filter-none p (x ∷ xs) h = grind (arith, h 0 x (omega arith), filter-none p xs (λ k d q. h (suc k) d (omega (arith, q))))

pub filter-all : {X : Type 0} (p : X → Bool) (xs : List X) → All (λ x. p x ≡ true) xs → filter p xs ≡ xs
filter-all p [] h = refl
filter-all p (x ∷ xs) h = grind (arith, h 0 x (omega arith), filter-all p xs (λ k d q. h (suc k) d (omega (arith, q))))

pub filter-flat_map : {X Y : Type 0} (p : Y → Bool) (f : X → List Y) (xs : List X) → filter p (flat_map f xs) ≡ flat_map (λ x. filter p (f x)) xs
filter-flat_map p f [] = refl
filter-flat_map p f (x ∷ xs) = filter-append p (f x) (flat_map f xs) ∙ ap (λ zs. filter p (f x) ++ zs) (filter-flat_map p f xs)

-- a test of what f makes
pub filter-map : {X Y : Type 0} (r : Y → Bool) (q : X → Bool) (f : X → Y) (xs : List X) → map f (filter (λ x. r (f x) && q x) xs) ≡ filter r (map f (filter q xs))
filter-map r q f [] = refl
filter-map r q f (x ∷ xs) = grind (arith, filter-map r q f xs)

-- ---- groups

-- the elements of each of the k numbers from lo on
abbrev pub groups : {X : Type 0} → (ℕ → X → Bool) → ℕ → ℕ → List X → List X
groups at lo k xs = flat_map (λ v. filter (at v) xs) (map (λ i. lo + i) (upto k))

pub groups-zero : {X : Type 0} (at : ℕ → X → Bool) (lo : ℕ) (xs : List X) → groups at lo 0 xs ≡ []
groups-zero at lo xs = ap (λ is. flat_map (λ v. filter (at v) xs) (map (λ i. lo + i) is)) upto-zero

pub groups-suc : {X : Type 0} (at : ℕ → X → Bool) (lo k : ℕ) (xs : List X) → groups at lo (suc k) xs ≡ groups at lo k xs ++ filter (at (lo + k)) xs
groups-suc at lo k xs =
    ap (λ j. groups at lo j xs) (sym (add-one k)) ∙ ap (flat_map (λ v. filter (at v) xs)) (map-upto (λ i. lo + i) k) ∙
    flat_map-append (λ v. filter (at v) xs) (map (λ i. lo + i) (upto k)) ((lo + k) ∷ []) ∙ ap (λ zs. groups at lo k xs ++ zs) (append-nil (filter (at (lo + k)) xs))

-- the same groups of two lists
pub groups-same : {X : Type 0} (at by : ℕ → X → Bool) (lo k : ℕ) (xs ys : List X) → ((i : ℕ) → i < k → filter (at (lo + i)) xs ≡ filter (by (lo + i)) ys) → groups at lo k xs ≡ groups by lo k ys
groups-same at by lo zero xs ys h = groups-zero at lo xs ∙ sym (groups-zero by lo ys)
groups-same at by lo (suc k) xs ys h =
    let ih : groups at lo k xs ≡ groups by lo k ys = groups-same at by lo k xs ys (λ i p. h i (omega (arith, p))) in
    groups-suc at lo k xs ∙ ap (λ zs. zs ++ filter (at (lo + k)) xs) ih ∙ ap (λ zs. groups by lo k ys ++ zs) (h k (omega arith)) ∙ sym (groups-suc by lo k ys)

tail-rises : {X : Type 0} (n : X → ℕ) (x : X) (xs : List X) → IsNonDecreasingBy n (x ∷ xs) → IsNonDecreasingBy n xs
tail-rises n x xs h = λ i j d p q. h (suc i) (suc j) d (omega (arith, p)) (omega (arith, q))

-- a list that rises up to m is what lies below m, and then what is m
split : {X : Type 0} (n : X → ℕ) (m : ℕ) (xs : List X) → IsNonDecreasingBy n xs → All (λ y. n y < suc m) xs → filter (λ y. nat_lt (n y) m) xs ++ filter (λ y. n y == m) xs ≡ xs
split n m [] up below = refl
split n m (x ∷ xs) up below =
    elim (cases_Bool (nat_lt (n x) m)) [
      | inl e ↦ grind (arith, nat_tests, e, split n m xs (tail-rises n x xs up) (λ k d q. below (suc k) d (omega (arith, q))))
      | inr e ↦
          let at-least : m ≤ n x = grind (arith, nat_tests, e) in
          let each : All (λ y. n y ≡ m) (x ∷ xs) = λ k d q. omega (arith, at-least, up 0 k d (omega arith) q, below k d q) in
          let none : filter (λ y. nat_lt (n y) m) (x ∷ xs) ≡ [] = filter-none (λ y. nat_lt (n y) m) (x ∷ xs)
          (λ k d q. let f : n (get_or (x ∷ xs) k d) ≡ m = each k d q in grind (arith, nat_tests, f)) in
          let all : filter (λ y. n y == m) (x ∷ xs) ≡ x ∷ xs = filter-all (λ y. n y == m) (x ∷ xs)
          (λ k d q. let f : n (get_or (x ∷ xs) k d) ≡ m = each k d q in grind (arith, nat_tests, f)) in
          ap (λ zs. zs ++ filter (λ y. n y == m) (x ∷ xs)) none ∙ all
    ]

-- what a filter keeps passes, and has what all have
pub all-filter : {X : Type 0} (P : X → Type 0) (p : X → Bool) (xs : List X) → All P xs → All (λ y. P y × (p y ≡ true)) (filter p xs)
all-filter P p xs h = λ k d q. (All-filter p P xs h k d q, filter_passes p xs k d q)

-- a list that rises from lo on is its groups
pub groups-rising : {X : Type 0} (n : X → ℕ) (lo k : ℕ) (xs : List X) → IsNonDecreasingBy n xs → All (λ y. (lo ≤ n y) × (n y < lo + k)) xs → groups (λ v y. n y == v) lo k xs ≡ xs
groups-rising n lo zero [] up within = groups-zero (λ v y. n y == v) lo []
groups-rising n lo zero (x ∷ xs) up within = absurd (omega (arith, (within 0 x (omega arith)).0, (within 0 x (omega arith)).1))
groups-rising n lo (suc k) xs up within =
    let m = lo + k in
    let low = filter (λ y. nat_lt (n y) m) xs in
    let inside : All (λ y. (lo ≤ n y) × (n y < lo + k)) low = λ i d q. let w = all-filter (λ y. (lo ≤ n y) × (n y < lo + suc k)) (λ y. nat_lt (n y) m) xs within i d q in
    (w.0.0, grind (arith, nat_tests, w.1)) in
    let ih : groups (λ v y. n y == v) lo k low ≡ low = groups-rising n lo k low (IsNonDecreasingBy-filter n (λ y. nat_lt (n y) m) xs up) inside in
    let same : groups (λ v y. n y == v) lo k xs ≡ groups (λ v y. n y == v) lo k low =
    groups-same (λ v y. n y == v) (λ v y. n y == v) lo k xs low (λ i p. sym
    (filter-twice (λ y. n y == (lo + i)) (λ y. nat_lt (n y) m) xs ∙
    filter-same (λ y. nat_lt (n y) m && (n y == (lo + i))) (λ y. n y == (lo + i)) xs (λ y. grind (arith, nat_tests, p)))) in
    groups-suc (λ v y. n y == v) lo k xs ∙ ap (λ zs. zs ++ filter (λ y. n y == m) xs) (same ∙ ih) ∙ split n m xs up (λ i d q. omega (arith, (within i d q).1))
