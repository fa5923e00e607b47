-- Of products in the order of their values, the front is that of those up to a value, where these are enough.
use Rattle.std.proofs.Common.{◌≡◌, ◌≤◌, ◌+◌, ◌-◌, ℕ, ℤ, suc, zero, pos, negsuc, Bool, false, List, [], ◌∷◌, ◌++◌, map, length, take, refl, ap, sym, ◌∙◌, arith, inl, inr}
use Rattle.std.specs.Prelude.{filter, ◌&&◌, ◌||◌, nat_le, nat_lt, unsigned_abs}
use Rattle.std.specs.List.{flat_map}
use Rattle.std.specs.List.Sorted.{IsNonDecreasingBy, IsPermutation}
use Rattle.std.proofs.lemmas.Bool.{cases_lt}
use Rattle.std.proofs.lemmas.Bool.Decides.{nat_tests}
use Rattle.std.proofs.lemmas.List.{append-nil, append_assoc, length-append, map-append, take-append-le}
use Rattle.std.proofs.lemmas.List.Concat.{flat_map-append}
use Rattle.rf_rules.specs.Tuples.{upto}
use Rattle.rf_rules.specs.Tallies.{shown_of}
use Rattle.rf_rules.specs.Products.{has_size, has_value, is_between, is_upto, is_value, lies, size_of, values}
use Rattle.rf_rules.specs.declared.product.Product.{Product}
use Rattle.rf_rules.proofs.TupleLaws.{upto-suc}
use Rattle.rf_rules.proofs.GroupLemmas.{filter-same, filter-twice, groups, groups-suc, groups-zero}
use Rattle.rf_rules.proofs.RisingLemmas.{each-all, filter-empty}
use Rattle.rf_rules.proofs.SizeLemmas.{sorted-values}

-- ---- up to a value

upto-value : (lo hi end : ℕ) (z : ℤ) → end ≤ hi → (is_between lo hi z && nat_le (unsigned_abs z) end) ≡ is_between lo end z
upto-value lo hi end (pos n) h = grind (arith, nat_tests, h)
upto-value lo hi end (negsuc n) h = refl

pub sorted-upto : (lo hi end : ℕ) (all found some ys : List Product) → some ≡ filter (is_upto end) found → end ≤ hi → found ≡ filter (lies lo hi) all →
    IsNonDecreasingBy size_of ys → ((v : ℕ) → filter (has_size v) ys ≡ filter (has_size v) some) → IsPermutation some ys → ys ≡ values lo end all
sorted-upto lo hi end all found some ys p h e up stable same =
    sorted-values lo end all some ys (p ∙ ap (filter (is_upto end)) e ∙ filter-twice (is_upto end) (lies lo hi) all ∙
    filter-same (λ q. lies lo hi q && is_upto end q) (lies lo end) all (λ q. upto-value lo hi end q.value h)) up stable same

-- ---- the front

-- the numbers below n, those below m first
more-upto : (m n : ℕ) → m ≤ n → (zs : List ℕ) × (upto n ≡ upto m ++ zs)
more-upto m zero h = let e : m ≡ 0 = omega (arith, h) in ([], rw e (sym (append-nil (upto 0))))
more-upto m (suc n) h =
    elim (cases_lt n m) [
      | inl p ↦ let e : m ≡ suc n = omega (arith, p, h) in ([], rw e (sym (append-nil (upto (suc n)))))
      | inr p ↦ let w = more-upto m n p in (w.0 ++ n ∷ [], upto-suc n ∙ ap (λ zs. zs ++ n ∷ []) w.1 ∙ append_assoc (upto m) w.0 (n ∷ []))
    ]

-- the values up to a number come first
more-values : (lo end hi : ℕ) (all : List Product) → end ≤ hi → (zs : List Product) × (values lo hi all ≡ values lo end all ++ zs)
more-values lo end hi all h =
    let at : ℕ → List Product = λ v. filter (has_value v) all in
    let w = more-upto (end + 1 - lo) (hi + 1 - lo) (omega (arith, h)) in
    let add : ℕ → ℕ = λ i. lo + i in (
      flat_map at (map add w.0),
      ap (λ is. flat_map at (map add is)) w.1 ∙ ap (flat_map at) (map-append add (upto (end + 1 - lo)) w.0) ∙
          flat_map-append at (map add (upto (end + 1 - lo))) (map add w.0),
    )

pub shown-front : (lo end hi : ℕ) (all some : List Product) → end ≤ hi → some ≡ values lo end all → 10000 ≤ length some → shown_of some ≡ shown_of (values lo hi all)
unfolding shown_of
shown-front lo end hi all some h e enough =
    let w = more-values lo end hi all h in
    let whole : values lo hi all ≡ some ++ w.0 = w.1 ∙ ap (λ zs. zs ++ w.0) (sym e) in
    sym (ap (take 10000) whole ∙ take-append-le 10000 some w.0 enough)

-- ---- how many there are

count-parts : {X : Type 0} (p q r : X → Bool) (xs : List X) → ((x : X) → (p x || q x) ≡ r x) → ((x : X) → (p x && q x) ≡ false) → length (filter p xs) + length (filter q xs) ≡ length (filter r xs)
count-parts p q r [] h k = refl
count-parts p q r (x ∷ xs) h k = grind (arith, h x, k x, count-parts p q r xs h k)

-- a value is one of the k numbers from lo on
abbrev is_within : ℕ → ℕ → ℤ → Bool
is_within lo k (pos n) = nat_le lo n && nat_lt n (lo + k)
is_within lo k (negsuc n) = false

within-zero : (lo : ℕ) (z : ℤ) → is_within lo 0 z ≡ false
within-zero lo (pos n) = grind (arith, nat_tests)
within-zero lo (negsuc n) = refl

within-more : (lo k : ℕ) (z : ℤ) → (is_within lo k z || is_value (lo + k) z) ≡ is_within lo (suc k) z
within-more lo k (pos n) = grind (arith, nat_tests)
within-more lo k (negsuc n) = refl

within-apart : (lo k : ℕ) (z : ℤ) → (is_within lo k z && is_value (lo + k) z) ≡ false
within-apart lo k (pos n) = grind (arith, nat_tests)
within-apart lo k (negsuc n) = refl

grouped : (lo k : ℕ) (all : List Product) → length (groups has_value lo k all) ≡ length (filter (λ p. is_within lo k p.value) all)
grouped lo zero all =
    ap length
    (groups-zero has_value lo all ∙ sym (filter-empty (λ p. is_within lo 0 p.value) all (each-all (λ p. is_within lo 0 p.value ≡ false) all (λ p. within-zero lo p.value))))
grouped lo (suc k) all =
    ap length (groups-suc has_value lo k all) ∙ length-append (groups has_value lo k all) (filter (has_value (lo + k)) all) ∙ ap (λ n. n + length (filter (has_value (lo + k)) all))
    (grouped lo k all)
    ∙ count-parts (λ p. is_within lo k p.value) (has_value (lo + k)) (λ p. is_within lo (suc k) p.value) all (λ p. within-more lo k p.value) (λ p. within-apart lo k p.value)

within-all : (lo hi : ℕ) (z : ℤ) → is_within lo (hi + 1 - lo) z ≡ is_between lo hi z
within-all lo hi (pos n) = grind (arith, nat_tests)
within-all lo hi (negsuc n) = refl

-- the values from lo to hi are as many as lie there
pub values-many : (lo hi : ℕ) (all : List Product) → length (filter (lies lo hi) all) ≡ length (values lo hi all)
values-many lo hi all =
    sym (grouped lo (hi + 1 - lo) all ∙ ap length (filter-same (λ p. is_within lo (hi + 1 - lo) p.value) (lies lo hi) all (λ p. within-all lo hi p.value)))
