-- Lemmas on filters of lists that rise, and on two of them as one.
use Rattle.std.proofs.Common.{◌≡◌, Bool, true, false, List, [], ◌∷◌, ◌++◌, map, refl, sym, ◌∙◌, arith, inl, inr, filter, ◌&&◌, ◌||◌}
use Rattle.std.specs.List.{flat_map}
use Rattle.std.proofs.lemmas.Bool.{cases_Bool}
use Rattle.rf_rules.specs.Merges.{merge}

-- ---- a fact of each element

abbrev pub Each : {X : Type 0} → (X → Type 0) → List X → Type 0
Each P [] = Unit {0}
Each P (x ∷ xs) = P x × Each P xs

pub each-from : {X : Type 0} (P Q : X → Type 0) (xs : List X) → ((x : X) → P x → Q x) → Each P xs → Each Q xs
each-from P Q [] f h = tt
each-from P Q (x ∷ xs) f h = (f x h.0, each-from P Q xs f h.1)

pub each-all : {X : Type 0} (P : X → Type 0) (xs : List X) → ((x : X) → P x) → Each P xs
each-all P [] f = tt
each-all P (x ∷ xs) f = (f x, each-all P xs f)

pub each-append : {X : Type 0} (P : X → Type 0) (xs ys : List X) → Each P xs → Each P ys → Each P (xs ++ ys)
each-append P [] ys h k = k
each-append P (x ∷ xs) ys h k = (h.0, each-append P xs ys h.1 k)

pub each-map : {X Y : Type 0} (P : Y → Type 0) (f : X → Y) (xs : List X) → Each (λ x. P (f x)) xs → Each P (map f xs)
each-map P f [] h = tt
each-map P f (x ∷ xs) h = (h.0, each-map P f xs h.1)

pub each-flat : {X Y : Type 0} (P : Y → Type 0) (f : X → List Y) (xs : List X) → ((x : X) → Each P (f x)) → Each P (flat_map f xs)
each-flat P f [] h = tt
each-flat P f (x ∷ xs) h = each-append P (f x) (flat_map f xs) (h x) (each-flat P f xs h)

pub each-filter : {X : Type 0} (P : X → Type 0) (a : X → Bool) (xs : List X) → Each P xs → Each P (filter a xs)
each-filter P a [] h = tt
each-filter P a (x ∷ xs) h = elim (cases_Bool (a x)) [ inl e ↦ rw e (h.0, each-filter P a xs h.1) | inr e ↦ rw e (each-filter P a xs h.1) ]

-- ---- filters that say the same

pub map-same : {X Y : Type 0} (f g : X → Y) (p q : X → Bool) (xs : List X) → Each (λ x. (p x ≡ q x) × (p x ≡ true → f x ≡ g x)) xs → map f (filter p xs) ≡ map g (filter q xs)
map-same f g p q [] h = refl
map-same f g p q (x ∷ xs) h = grind (arith, h.0.0, h.0.1, map-same f g p q xs h.1)

-- a test of what f makes of those that pass
pub filter-made : {X Y : Type 0} (r : Y → Bool) (f : X → Y) (p q : X → Bool) (xs : List X) → Each (λ x. p x ≡ true → r (f x) ≡ q x) xs →
    filter r (map f (filter p xs)) ≡ map f (filter (λ x. p x && q x) xs)
filter-made r f p q [] h = refl
filter-made r f p q (x ∷ xs) h = grind (arith, h.0, filter-made r f p q xs h.1)

pub filter-empty : {X : Type 0} (p : X → Bool) (xs : List X) → Each (λ x. p x ≡ false) xs → filter p xs ≡ []
filter-empty p [] h = refl
filter-empty p (x ∷ xs) h = grind (arith, h.0, filter-empty p xs h.1)

-- ---- lists that rise

-- x stands before y, and not the other way round
abbrev pub Before : {X : Type 0} → (X → X → Bool) → X → X → Type 0
Before lt x y = (lt x y ≡ true) × (lt y x ≡ false)

abbrev pub IsRising : {X : Type 0} → (X → X → Bool) → List X → Type 0
IsRising lt [] = Unit {0}
IsRising lt (x ∷ xs) = Each (Before lt x) xs × IsRising lt xs

pub rising-append : {X : Type 0} (lt : X → X → Bool) (xs ys : List X) → IsRising lt xs → IsRising lt ys → Each (λ x. Each (Before lt x) ys) xs → IsRising lt (xs ++ ys)
rising-append lt [] ys h k a = k
rising-append lt (x ∷ xs) ys h k a = (each-append (Before lt x) xs ys h.0 a.0, rising-append lt xs ys h.1 k a.1)

pub rising-map : {X Y : Type 0} (lt : X → X → Bool) (by : Y → Y → Bool) (f : X → Y) (xs : List X) → ((x y : X) → Before lt x y → Before by (f x) (f y)) → IsRising lt xs → IsRising by (map f xs)
rising-map lt by f [] k h = tt
rising-map lt by f (x ∷ xs) k h = (each-map (Before by (f x)) f xs (each-from (Before lt x) (λ y. Before by (f x) (f y)) xs (k x) h.0), rising-map lt by f xs k h.1)

-- the same order by another test
each-along : {X : Type 0} (lt by : X → X → Bool) (P : X → Type 0) (x : X) (xs : List X) → P x → ((x y : X) → P x → P y → lt x y ≡ by x y) → Each P xs → Each (Before lt x) xs → Each (Before by x) xs
each-along lt by P x [] p same each h = tt
each-along lt by P x (y ∷ xs) p same each h = ((sym (same x y p each.0) ∙ h.0.0, sym (same y x each.0 p) ∙ h.0.1), each-along lt by P x xs p same each.1 h.1)

pub rising-along : {X : Type 0} (lt by : X → X → Bool) (P : X → Type 0) (xs : List X) → ((x y : X) → P x → P y → lt x y ≡ by x y) → Each P xs → IsRising lt xs → IsRising by xs
rising-along lt by P [] same each h = tt
rising-along lt by P (x ∷ xs) same each h = (each-along lt by P x xs each.0 same each.1 h.0, rising-along lt by P xs same each.1 h.1)

-- ---- two lists as one

pub merge-left : {Y : Type 0} (lt : Y → Y → Bool) (x : Y) (xs ys : List Y) → Each (Before lt x) ys → merge lt (x ∷ xs) ys ≡ x ∷ merge lt xs ys
unfolding merge
merge-left lt x xs [] h = refl
merge-left lt x xs (y ∷ ys) h = let no : lt y x ≡ false = h.0.1 in rw no refl

pub merge-right : {Y : Type 0} (lt : Y → Y → Bool) (y : Y) (xs ys : List Y) → Each (Before lt y) xs → merge lt xs (y ∷ ys) ≡ y ∷ merge lt xs ys
unfolding merge
merge-right lt y [] ys h = refl
merge-right lt y (x ∷ xs) ys h = let yes : lt y x ≡ true = h.0.0 in rw yes refl

pub merge-none : {Y : Type 0} (lt : Y → Y → Bool) (xs : List Y) → merge lt [] xs ≡ xs
unfolding merge
merge-none lt xs = refl

above : {X Y : Type 0} (lt : Y → Y → Bool) (f : X → Y) (a : X → Bool) (x : X) (xs : List X) → Each (Before (λ s t. lt (f s) (f t)) x) xs → Each (Before lt (f x)) (map f (filter a xs))
above lt f a x xs h = each-map (Before lt (f x)) f (filter a xs) (each-filter (λ y. Before lt (f x) (f y)) a xs h)

-- two filters of a rising list, of which no element passes both, as one
pub merge-filters : {X Y : Type 0} (lt : Y → Y → Bool) (f : X → Y) (a b : X → Bool) (xs : List X) → IsRising (λ s t. lt (f s) (f t)) xs → ((x : X) → (a x && b x) ≡ false)
    → merge lt (map f (filter a xs)) (map f (filter b xs)) ≡ map f (filter (λ t. a t || b t) xs)
merge-filters lt f a b [] h d = merge-none lt []
merge-filters lt f a b (x ∷ xs) h d =
    let left = merge-left lt (f x) (map f (filter a xs)) (map f (filter b xs)) (above lt f b x xs h.0) in
    let right = merge-right lt (f x) (map f (filter a xs)) (map f (filter b xs)) (above lt f a x xs h.0) in
    grind (arith, d x, left, right, merge-filters lt f a b xs h.1 d)

-- ---- parts that are empty

pub flat-only : {X Y : Type 0} (g : X → List Y) (test : X → Bool) (xs : List X) → Each (λ x. test x ≡ false → g x ≡ []) xs → flat_map g xs ≡ flat_map g (filter test xs)
flat-only g test [] none = refl
flat-only g test (x ∷ xs) none = grind (arith, none.0, flat-only g test xs none.1)
