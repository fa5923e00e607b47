-- Lemmas on the search for broken instances.
use Rattle.std.proofs.Common.{◌≡◌, ℕ, ℤ, suc, zero, Bool, map, refl, add-one, true, false, List, [], ◌∷◌, ◌++◌, length, ap, sym, ◌∙◌, ◌≤◌, ◌<◌, ◌+◌, ◌-◌, arith, Option, filter, nat_lt}
use Rattle.std.proofs.Common.{append_assoc, length-append, take_at}
use Rattle.std.proofs.lemmas.Bool.Decides.{nat_tests}
use Rattle.rf_terms.specs.declared.kind.Kind.{Kind}
use Rattle.rf_show.specs.Show.{ShowData}
use Rattle.rf_show.specs.Query.{margin_of}
use Rattle.rf_rules.specs.Tuples.{found_in, upto, tuples}
use Rattle.rf_rules.specs.Instances.{distance_of, is_broken, is_candidate, is_open}
use Rattle.rf_rules.specs.Conflicts.{conflict_as, conflict_of, product_of, sources_of}
use Rattle.rf_rules.specs.Tallies.{Extends}
use Rattle.rf_rules.specs.Searches.{broken_in}
use Rattle.rf_rules.specs.declared.conflict.Conflict.{Conflict}
use Rattle.rf_rules.specs.declared.search.Search.{Search}
use Rattle.rf_rules.specs.declared.tally.Tally.{Tally}
use Rattle.rf_rules.proofs.HopelessLemmas.{closed}
use Rattle.rf_rules.proofs.TallyLemmas.{both-more, nothing, same-more}
use Rattle.rf_rules.proofs.TupleLaws.{begun, found-all, found-start, found-more, found-end, found-none, found-at_none, tuples-zero}
use mathlib.Core.Bool.{and-false}

pub broken-far : (show : ShowData) (ats : List (Option ℕ)) (kind : Kind) (t : List ℕ) → margin_of show kind t ≤ distance_of ats kind t → is_broken show ats kind t ≡ false
unfolding is_broken
broken-far show ats kind t h = let e : nat_lt (distance_of ats kind t) (margin_of show kind t) ≡ false = grind (arith, nat_tests) in rw e

pub broken-near : (show : ShowData) (ats : List (Option ℕ)) (kind : Kind) (t : List ℕ) → distance_of ats kind t < margin_of show kind t → is_broken show ats kind t ≡ is_candidate show ats kind t
unfolding is_broken
broken-near show ats kind t h = let e : nat_lt (distance_of ats kind t) (margin_of show kind t) ≡ true = grind (arith, nat_tests) in rw e

pub broken-no_candidate : (show : ShowData) (ats : List (Option ℕ)) (kind : Kind) (t : List ℕ) → is_candidate show ats kind t ≡ false → is_broken show ats kind t ≡ false
unfolding is_broken
broken-no_candidate show ats kind t h = rw h (and-false (nat_lt (distance_of ats kind t) (margin_of show kind t)))

-- nothing goes on from carriers with which no instance begins
pub found-closed : (s : Search) (t : List ℕ) (k : ℕ) (a : Tally) → is_open s.ats.now t ≡ false → Extends a a (broken_in s t (tuples k (upto (length s.ats.now))))
found-closed s t k a h =
    nothing a _ (found-none _ _ t (tuples k (upto (length s.ats.now))) (λ u. broken-no_candidate s.show.now s.ats.now s.kind (t ++ u) (closed s.show.now s.ats.now s.kind t u h)))

-- ---- with no role taken

pub found-whole : {Y : Type 0} (f : List ℕ → Y) (p : List ℕ → Bool) (k n : ℕ) → found_in f p [] (tuples (k - 0) (upto n)) ≡ map f (filter p (tuples k (upto n)))
found-whole f p k n = let e : k - 0 ≡ k = omega arith in ap (λ j. found_in f p [] (tuples j (upto n))) e ∙ found-all f p (tuples k (upto n))

pub none-pass : {Y : Type 0} (f : List ℕ → Y) (p : List ℕ → Bool) (us : List (List ℕ)) → ((u : List ℕ) → p u ≡ false) → map f (filter p us) ≡ []
none-pass f p us h = sym (found-all f p us) ∙ found-none f p [] us h

-- ---- the steps of a search

pub start : (f : List ℕ → Conflict) (p : List ℕ → Bool) (t : List ℕ) (k n : ℕ) (a : Tally) → Extends a a (found_in f p t (begun k (upto n) (upto 0)))
start f p t k n a = nothing a _ (found-start f p t k n)

-- one carrier more in the next role, after those below it
pub more : (f : List ℕ → Conflict) (p : List ℕ → Bool) (t : List ℕ) (k n i : ℕ) (a b c : Tally) → Extends a b (found_in f p t (begun k (upto n) (upto i))) →
    Extends b c (found_in f p (t ++ i ∷ []) (tuples k (upto n))) → Extends a c (found_in f p t (begun k (upto n) (upto (i + 1))))
more f p t k n i a b c x y = same-more a c _ _ (found-more f p t k n i) (both-more a b c _ _ x y)

pub skip : (f : List ℕ → Conflict) (p : List ℕ → Bool) (t : List ℕ) (k n i : ℕ) (a b : Tally) → Extends a b (found_in f p t (begun k (upto n) (upto i))) →
    found_in f p (t ++ i ∷ []) (tuples k (upto n)) ≡ [] → Extends a b (found_in f p t (begun k (upto n) (upto (i + 1))))
skip f p t k n i a b x none = more f p t k n i a b b x (nothing b _ none)

pub end : (f : List ℕ → Conflict) (p : List ℕ → Bool) (t : List ℕ) (k j n i : ℕ) (a b : Tally) → suc k ≡ j → i ≡ n → Extends a b (found_in f p t (begun k (upto n) (upto i))) →
    Extends a b (found_in f p t (tuples j (upto n)))
end f p t k j n i a b d e x = same-more a b _ _ (found-end f p t k n i e ∙ ap (λ l. found_in f p t (tuples l (upto n))) d) x

-- what goes on from a carrier with which nothing passes
pub hopeless : {Y : Type 0} (f : List ℕ → Y) (p : List ℕ → Bool) (t : List ℕ) (k n i : ℕ) → ((u : List ℕ) → p (t ++ i ∷ u) ≡ false) → found_in f p (t ++ i ∷ []) (tuples k (upto n)) ≡ []
hopeless f p t k n i h = found-none f p (t ++ i ∷ []) (tuples k (upto n)) (λ u. ap p (append_assoc t (i ∷ []) u) ∙ h u)

-- a carrier in the last role with which nothing passes
pub one : {Y : Type 0} (f : List ℕ → Y) (p : List ℕ → Bool) (t : List ℕ) (n : ℕ) → p t ≡ false → found_in f p t (tuples 0 (upto n)) ≡ []
one f p t n h = ap (found_in f p t) (tuples-zero (upto n)) ∙ found-at_none f p t h

blank-begun : {Y : Type 0} (f : List ℕ → Y) (p : List ℕ → Bool) (t : List ℕ) (k n i : ℕ) → i ≤ n → ((c : ℕ) → c < n → found_in f p (t ++ c ∷ []) (tuples k (upto n)) ≡ []) →
    found_in f p t (begun k (upto n) (upto i)) ≡ []
blank-begun f p t k n zero q h = found-start f p t k n
blank-begun f p t k n (suc i) q h =
    let before : found_in f p t (begun k (upto n) (upto i)) ≡ [] = blank-begun f p t k n i (omega (arith, q)) h in
    ap (λ j. found_in f p t (begun k (upto n) (upto j))) (sym (add-one i)) ∙ sym (found-more f p t k n i) ∙
    ap (λ zs. zs ++ found_in f p (t ++ i ∷ []) (tuples k (upto n))) before ∙ h i (omega (arith, q))

-- nothing is found where nothing is with any carrier in the next role
pub blank-all : {Y : Type 0} (f : List ℕ → Y) (p : List ℕ → Bool) (t : List ℕ) (k n : ℕ) → ((c : ℕ) → c < n → found_in f p (t ++ c ∷ []) (tuples k (upto n)) ≡ []) →
    found_in f p t (tuples (suc k) (upto n)) ≡ []
blank-all f p t k n h = sym (found-end f p t k n n refl) ∙ blank-begun f p t k n n (omega arith) h

pub none-next : (f : List ℕ → Conflict) (p : List ℕ → Bool) (t : List ℕ) (k j n : ℕ) (a : Tally) → suc k ≡ j → ((c : ℕ) → c < n → found_in f p (t ++ c ∷ []) (tuples k (upto n)) ≡ []) →
    Extends a a (found_in f p t (tuples j (upto n)))
none-next f p t k j n a e h = nothing a _ (rw e at (blank-all f p t k n h))

-- a conflict, from what the code has at hand
pub conflict-is : (show : ShowData) (ats : List (Option ℕ)) (kind : Kind) (t : List ℕ) (product : ℤ) (distance needs : ℕ) → product ≡ product_of ats kind (sources_of t) →
    distance ≡ distance_of ats kind t → needs ≡ margin_of show kind t → conflict_as kind t product distance needs ≡ conflict_of show ats kind t
unfolding conflict_of
conflict-is show ats kind t product distance needs e f g = cc

-- the carriers of all roles but the last
pub sources-push : (t : List ℕ) (c : ℕ) → t ≡ sources_of (t ++ c ∷ [])
sources-push t c = sym (take_at t (c ∷ []) (length (t ++ c ∷ []) - 1) (omega (arith, length-append t (c ∷ []))))
