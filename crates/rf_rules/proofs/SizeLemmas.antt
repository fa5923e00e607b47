-- Lemmas on products in the order of their values.
use Rattle.std.proofs.Common.{◌≡◌, ◌≤◌, ◌<◌, ◌+◌, ◌-◌, ℕ, ℤ, pos, negsuc, Bool, true, List, [], ◌∷◌, length, get_or, take, refl, ap, sym, ◌∙◌, arith, nat_cmp}
use Rattle.std.specs.Prelude.{All, Option, filter, ◌==◌, ◌&&◌, not, unsigned_abs, if◌then◌else◌}
use Rattle.std.specs.Ordering.{is_lt}
use Rattle.std.specs.List.{flat_map}
use Rattle.std.specs.List.Sorted.{IsNonDecreasingBy, IsPermutation, IsStableByKey, ties}
use Rattle.std.proofs.lemmas.Bool.{false≢true}
use Rattle.std.proofs.lemmas.Bool.Decides.{nat_tests}
use Rattle.std.proofs.lemmas.List.Sorted.{All-permutation}
use Rattle.rf_terms.specs.Kinds.{has_victim, kinds, roles_of}
use Rattle.rf_terms.specs.declared.kind.Kind.{Kind}
use Rattle.rf_terms.specs.declared.kind.Kind.TheVariants.{Spacing}
use Rattle.rf_show.specs.Show.{ShowData}
use Rattle.rf_rules.specs.Tuples.{found_in, tuples, upto}
use Rattle.rf_rules.specs.Instances.{ats_of, is_candidate}
use Rattle.rf_rules.specs.Tallies.{shown_of}
use Rattle.rf_rules.specs.declared.product.Products.{Products}
use Rattle.rf_rules.specs.Products.{all_products, has_size, has_value, is_between, is_noted, is_value, lies, listed, noted_of, product_at, products, products_of, size_of, values}
use Rattle.rf_rules.specs.declared.product.Product.{Product}
use Rattle.rf_rules.proofs.TupleLaws.{found-all}
use Rattle.rf_rules.proofs.GroupLemmas.{all-filter, filter-flat_map, filter-map, filter-same, filter-twice, groups, groups-rising, groups-same}
use Rattle.rf_base.proofs.ListLaws.{flat_same}

-- ---- a stable sort

ties-same : (a b : ℕ) → (not (is_lt (nat_cmp a b)) && not (is_lt (nat_cmp b a))) ≡ (b == a)
ties-same a b = grind (arith, nat_tests)

-- a product of this size
abbrev sized : ℕ → Product
sized v = record { value = pos v; kind = Spacing; sources = [] }

-- it keeps the order of those of one size
pub stable-by_size : (xs ys : List Product) → IsStableByKey size_of nat_cmp xs ys → (v : ℕ) → filter (has_size v) ys ≡ filter (has_size v) xs
stable-by_size xs ys h v =
    let lt : Product → Product → Bool = λ p q. is_lt (nat_cmp (size_of p) (size_of q)) in
    let same : (p : Product) → ties lt (sized v) p ≡ has_size v p = λ p. ties-same v (size_of p) in
    sym (filter-same (ties lt (sized v)) (has_size v) ys same) ∙ h (sized v) ∙ filter-same (ties lt (sized v)) (has_size v) xs same

-- ---- what is found

flat_map-filter : {X Y : Type 0} (p : X → Bool) (f : X → List Y) (xs : List X) → flat_map (λ x. if p x then f x else []) xs ≡ flat_map f (filter p xs)
flat_map-filter p f [] = refl
flat_map-filter p f (x ∷ xs) = grind (arith, flat_map-filter p f xs)

noted-kind : (show : ShowData) (ats : List (Option ℕ)) (lo hi : ℕ) (kind : Kind) →
    found_in (product_at ats kind) (is_noted show ats kind lo hi) [] (tuples (roles_of kind - 1) (upto (length ats))) ≡ filter (lies lo hi) (products_of show ats kind)
unfolding is_noted
noted-kind show ats lo hi kind =
    let all = tuples (roles_of kind - 1) (upto (length ats)) in
    found-all (product_at ats kind) (λ t. lies lo hi (product_at ats kind t) && is_candidate show ats kind t) all ∙ filter-map (lies lo hi) (is_candidate show ats kind)
    (product_at ats kind) all

pub noted-all : (show : ShowData) (lo hi : ℕ) → flat_map (noted_of show (ats_of show) lo hi) kinds ≡ filter (lies lo hi) (all_products show)
noted-all show lo hi =
    let ats = ats_of show in
    let found : Kind → List Product = λ kind. found_in (product_at ats kind) (is_noted show ats kind lo hi) [] (tuples (roles_of kind - 1) (upto (length ats))) in
    flat_map-filter has_victim found kinds ∙ flat_same found (λ kind. filter (lies lo hi) (products_of show ats kind)) (filter has_victim kinds) (noted-kind show ats lo hi) ∙
    sym (filter-flat_map (lies lo hi) (products_of show ats) (filter has_victim kinds))

-- ---- values and sizes

value-is : (lo hi v : ℕ) (z : ℤ) → lo ≤ v → v ≤ hi → (is_between lo hi z && (unsigned_abs z == v)) ≡ is_value v z
value-is lo hi v (pos n) p q = grind (arith, nat_tests, p, q)
value-is lo hi v (negsuc n) p q = refl

between-size : (lo hi : ℕ) (z : ℤ) → is_between lo hi z ≡ true → (lo ≤ unsigned_abs z) × (unsigned_abs z < lo + (hi + 1 - lo))
between-size lo hi (pos n) h = grind (arith, nat_tests, h)
between-size lo hi (negsuc n) h = absurd (false≢true h)

-- what lies from lo to hi, sorted by size and with the order kept among those of one size, is listed by values
pub sorted-values : (lo hi : ℕ) (all xs ys : List Product) → xs ≡ filter (lies lo hi) all → IsNonDecreasingBy size_of ys →
    ((v : ℕ) → filter (has_size v) ys ≡ filter (has_size v) xs) → IsPermutation xs ys → ys ≡ values lo hi all
sorted-values lo hi all xs ys found up stable same =
    let k = hi + 1 - lo in
    let inside : All (λ (p : Product). (lo ≤ size_of p) × (size_of p < lo + k)) xs =
    rw found (λ i d q. between-size lo hi (get_or (filter (lies lo hi) all) i d).value (all-filter (λ (p : Product). Unit {0}) (lies lo hi) all (λ _ _ _. tt) i d q).1) in
    let groups-of : groups has_size lo k ys ≡ ys = groups-rising size_of lo k ys up (All-permutation (λ (p : Product). (lo ≤ size_of p) × (size_of p < lo + k)) xs ys same inside) in
    let each : (i : ℕ) → i < k → filter (has_size (lo + i)) ys ≡ filter (has_value (lo + i)) all = λ i p.
    stable (lo + i) ∙ ap (filter (has_size (lo + i))) found ∙ filter-twice (has_size (lo + i)) (lies lo hi) all ∙
    filter-same (λ q. lies lo hi q && has_size (lo + i) q) (has_value (lo + i)) all (λ q. value-is lo hi (lo + i) q.value (omega arith) (omega (arith, p))) in
    sym groups-of ∙ groups-same has_size has_value lo k ys all each

-- what is kept of the list is what is shown of it
pub listed-is : (show : ShowData) (lo hi : ℕ) (ys shown : List Product) (total : ℕ) → ys ≡ products show lo hi → shown ≡ take 10000 ys → total ≡ length ys →
    ◌≡◌ {A = Products} (record { shown = shown; total = total }) (listed show lo hi)
unfolding shown_of
listed-is show lo hi ys shown total e f g =
    let front : shown ≡ take 10000 (products show lo hi) = f ∙ ap (take 10000) e in
    let count : total ≡ length (products show lo hi) = g ∙ ap length e in
    rw (front, count) refl
