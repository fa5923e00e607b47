-- Lemmas on the search for products.
use Rattle.std.proofs.Common.{◌≡◌, ◌≤◌, ◌<◌, ◌+◌, ℕ, ℤ, suc, true, false, List, [], ◌∷◌, ◌++◌, length, refl, ap, sym, ◌∙◌, arith, Option, append-nil, append_assoc}
use Rattle.rf_terms.specs.Kinds.{roles_of}
use Rattle.rf_terms.specs.declared.kind.Kind.{Kind}
use Rattle.rf_terms.specs.declared.kind.Kind.TheVariants.{Spacing}
use Rattle.rf_show.specs.Show.{ShowData}
use Rattle.rf_rules.specs.Tuples.{tuples, upto}
use Rattle.rf_rules.specs.Instances.{is_candidate, is_open, ordered_roles}
use Rattle.rf_rules.specs.Conflicts.{product_of}
use Rattle.rf_rules.specs.Products.{is_between, is_noted, noted_in, product_at}
use Rattle.rf_rules.specs.declared.product.Product.{Product}
use Rattle.rf_rules.specs.declared.search.Search.{Search}
use Rattle.rf_rules.proofs.HopelessLemmas.{closed}
use Rattle.rf_rules.proofs.SearchLemmas.{hopeless}
use Rattle.rf_rules.proofs.TupleLaws.{begun, found-at_none, found-end, found-more, found-none, found-one, found-start, tuples-zero}
use mathlib.Core.Bool.{and-false}

-- the roles that stand in an order are sources, where there is a victim
pub ordered-few : (kind : Kind) → ordered_roles kind ≤ roles_of kind
ordered-few Spacing = omega arith
ordered-few _ = omega arith

pub ordered-sources : (kind : Kind) → 2 < roles_of kind → ordered_roles kind + 1 ≤ roles_of kind
ordered-sources Spacing h = absurd (omega (arith, h))
ordered-sources _ h = omega arith

pub noted-outside : (show : ShowData) (ats : List (Option ℕ)) (kind : Kind) (lo hi : ℕ) (t : List ℕ) → is_between lo hi (product_of ats kind t) ≡ false → is_noted show ats kind lo hi t ≡ false
unfolding is_noted
noted-outside show ats kind lo hi t h = rw h

pub noted-no_candidate : (show : ShowData) (ats : List (Option ℕ)) (kind : Kind) (lo hi : ℕ) (t : List ℕ) → is_candidate show ats kind t ≡ false → is_noted show ats kind lo hi t ≡ false
unfolding is_noted
noted-no_candidate show ats kind lo hi t h = rw h (and-false (is_between lo hi (product_of ats kind t)))

pub noted-both : (show : ShowData) (ats : List (Option ℕ)) (kind : Kind) (lo hi : ℕ) (t : List ℕ) → is_between lo hi (product_of ats kind t) ≡ true →
    is_candidate show ats kind t ≡ true → is_noted show ats kind lo hi t ≡ true
unfolding is_noted
noted-both show ats kind lo hi t h p = rw (h, p) refl

-- sources of which one has no frequency, or stands twice
pub noted-closed : (s : Search) (lo hi : ℕ) (t : List ℕ) (k : ℕ) (xs : List Product) → is_open s.ats.now t ≡ false → xs ≡ xs ++ noted_in s lo hi t (tuples k (upto (length s.ats.now)))
noted-closed s lo hi t k xs h =
    let none = found-none (product_at s.ats.now s.kind) (is_noted s.show.now s.ats.now s.kind lo hi) t (tuples k (upto (length s.ats.now)))
    (λ u. noted-no_candidate s.show.now s.ats.now s.kind lo hi (t ++ u) (closed s.show.now s.ats.now s.kind t u h)) in
    sym (ap (λ zs. xs ++ zs) none ∙ append-nil xs)

-- sources that are not noted
pub note-none : (s : Search) (lo hi : ℕ) (t : List ℕ) (xs : List Product) → is_noted s.show.now s.ats.now s.kind lo hi t ≡ false → xs ≡ xs ++ noted_in s lo hi t ([] ∷ [])
note-none s lo hi t xs h = sym (ap (λ zs. xs ++ zs) (found-at_none (product_at s.ats.now s.kind) (is_noted s.show.now s.ats.now s.kind lo hi) t h) ∙ append-nil xs)

pub note-one : (s : Search) (lo hi : ℕ) (t : List ℕ) (xs : List Product) (p : Product) → is_noted s.show.now s.ats.now s.kind lo hi t ≡ true → p ≡ product_at s.ats.now s.kind t →
    xs ++ p ∷ [] ≡ xs ++ noted_in s lo hi t ([] ∷ [])
note-one s lo hi t xs p h e = ap (λ q. xs ++ q ∷ []) e ∙ ap (λ zs. xs ++ zs) (sym (found-one (product_at s.ats.now s.kind) (is_noted s.show.now s.ats.now s.kind lo hi) t h))

pub product-is : (ats : List (Option ℕ)) (kind : Kind) (t sources : List ℕ) (value : ℤ) → value ≡ product_of ats kind t → sources ≡ (product_at ats kind t).sources →
    ◌≡◌ {A = Product} (record { value = value; kind = kind; sources = sources }) (product_at ats kind t)
product-is ats kind t sources value e f = rw (e, f) refl

pub sources-last : (s : Search) (lo hi : ℕ) (t : List ℕ) (k : ℕ) → k ≡ 0 → noted_in s lo hi t ([] ∷ []) ≡ noted_in s lo hi t (tuples k (upto (length s.ats.now)))
sources-last s lo hi t k e = sym (ap (λ j. noted_in s lo hi t (tuples j (upto (length s.ats.now)))) e ∙ ap (noted_in s lo hi t) (tuples-zero (upto (length s.ats.now))))

pub sources-start : (s : Search) (lo hi : ℕ) (t : List ℕ) (k n : ℕ) (xs : List Product) → xs ≡ xs ++ noted_in s lo hi t (begun k (upto n) (upto 0))
sources-start s lo hi t k n xs = sym (ap (λ zs. xs ++ zs) (found-start (product_at s.ats.now s.kind) (is_noted s.show.now s.ats.now s.kind lo hi) t k n) ∙ append-nil xs)

pub sources-more : (s : Search) (lo hi : ℕ) (t : List ℕ) (k n i : ℕ) (xs ys zs : List Product) → ys ≡ xs ++ noted_in s lo hi t (begun k (upto n) (upto i)) →
    zs ≡ ys ++ noted_in s lo hi (t ++ i ∷ []) (tuples k (upto n)) → zs ≡ xs ++ noted_in s lo hi t (begun k (upto n) (upto (i + 1)))
sources-more s lo hi t k n i xs ys zs p q =
    let more = found-more (product_at s.ats.now s.kind) (is_noted s.show.now s.ats.now s.kind lo hi) t k n i in
    q ∙ ap (λ us. us ++ noted_in s lo hi (t ++ i ∷ []) (tuples k (upto n))) p ∙
    append_assoc xs (noted_in s lo hi t (begun k (upto n) (upto i))) (noted_in s lo hi (t ++ i ∷ []) (tuples k (upto n))) ∙ ap (λ us. xs ++ us) more

pub sources-skip : (s : Search) (lo hi : ℕ) (t : List ℕ) (k n i : ℕ) (xs ys : List Product) → ys ≡ xs ++ noted_in s lo hi t (begun k (upto n) (upto i)) →
    ((u : List ℕ) → is_noted s.show.now s.ats.now s.kind lo hi (t ++ i ∷ u) ≡ false) → ys ≡ xs ++ noted_in s lo hi t (begun k (upto n) (upto (i + 1)))
sources-skip s lo hi t k n i xs ys p h = sources-more s lo hi t k n i xs ys ys p (sym (ap (λ us. ys ++ us) (hopeless _ _ t k n i h) ∙ append-nil ys))

pub sources-end : (s : Search) (lo hi : ℕ) (t : List ℕ) (k j n i : ℕ) (xs ys : List Product) → i ≡ n → suc k ≡ j → ys ≡ xs ++ noted_in s lo hi t (begun k (upto n) (upto i)) →
    ys ≡ xs ++ noted_in s lo hi t (tuples j (upto n))
sources-end s lo hi t k j n i xs ys e f p =
    p ∙ ap (λ us. xs ++ us) (found-end (product_at s.ats.now s.kind) (is_noted s.show.now s.ats.now s.kind lo hi) t k n i e ∙ ap (λ m. noted_in s lo hi t (tuples m (upto n))) f)
