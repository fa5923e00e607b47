-- Lemmas on the search for the broken instances that have a carrier of a mask.
use Rattle.std.proofs.Common.{◌≡◌, ◌<◌, ◌+◌, ℕ, Bool, true, false, List, [], ◌∷◌, ◌++◌, length, refl, ap, sym, ◌∙◌, arith, inl, inr, Option, ◌&&◌, ◌||◌}
use Rattle.std.proofs.lemmas.Bool.{cases_Bool}
use Rattle.std.proofs.lemmas.List.Folds.{list_any-append}
use Rattle.rf_terms.specs.Kinds.{roles_of}
use Rattle.rf_terms.specs.declared.kind.Kind.{Kind}
use Rattle.rf_zones.specs.Masks.{has_bit}
use Rattle.rf_show.specs.Show.{ShowData}
use Rattle.rf_rules.specs.declared.pairings.Pairings.{Pairings}
use Rattle.rf_rules.specs.declared.search.Search.{Search}
use Rattle.rf_rules.specs.declared.tally.Tally.{Tally}
use Rattle.rf_rules.specs.Tuples.{found_in, tuples, upto}
use Rattle.rf_rules.specs.Instances.{is_broken, is_open}
use Rattle.rf_rules.specs.Conflicts.{conflict_of}
use Rattle.rf_rules.specs.Paired.{mask_near}
use Rattle.rf_rules.specs.Searches.{IsReady, broken_in, partial_of}
use Rattle.rf_rules.specs.Tallies.{Extends}
use Rattle.rf_rules.specs.Touched.{HasTouching, is_touched, meets, touched_in}
use Rattle.rf_rules.proofs.HopelessLemmas.{closed}
use Rattle.rf_rules.proofs.PairLemmas.{unbroken}
use Rattle.rf_rules.proofs.SearchLemmas.{blank-all, broken-no_candidate, more, one, skip}
use Rattle.rf_rules.proofs.TallyLemmas.{nothing, same-more}
use Rattle.rf_rules.proofs.TupleLaws.{begun, found-none, tuples-zero}
use mathlib.Core.Bool.{and-false, or-false, and-true, or-true}

-- ---- what is touched

pub touched-unbroken : (show : ShowData) (ats : List (Option ℕ)) (kind : Kind) (mask : ℕ) (t : List ℕ) → is_broken show ats kind t ≡ false → is_touched show ats kind mask t ≡ false
unfolding is_touched
touched-unbroken show ats kind mask t h = ap (λ b. b && meets mask t) h

pub touched-not_met : (show : ShowData) (ats : List (Option ℕ)) (kind : Kind) (mask : ℕ) (t : List ℕ) → meets mask t ≡ false → is_touched show ats kind mask t ≡ false
unfolding is_touched
touched-not_met show ats kind mask t h = ap (λ b. is_broken show ats kind t && b) h ∙ and-false (is_broken show ats kind t)

pub touched-met : (show : ShowData) (ats : List (Option ℕ)) (kind : Kind) (mask : ℕ) (t : List ℕ) → meets mask t ≡ true → is_touched show ats kind mask t ≡ is_broken show ats kind t
unfolding is_touched
touched-met show ats kind mask t h = ap (λ b. is_broken show ats kind t && b) h ∙ and-true (is_broken show ats kind t)

pub met-front : (mask : ℕ) (t u : List ℕ) → meets mask t ≡ true → meets mask (t ++ u) ≡ true
met-front mask t u h = list_any-append (has_bit mask) t u ∙ ap (λ b. b || meets mask u) h

pub met-push : (mask : ℕ) (t : List ℕ) (c : ℕ) → meets mask (t ++ c ∷ []) ≡ (meets mask t || has_bit mask c)
met-push mask t c = list_any-append (has_bit mask) t (c ∷ []) ∙ ap (λ b. meets mask t || b) (or-false (has_bit mask c))

same-tests : {Y : Type 0} (f : List ℕ → Y) (p q : List ℕ → Bool) (t : List ℕ) (us : List (List ℕ)) → ((u : List ℕ) → p (t ++ u) ≡ q (t ++ u)) → found_in f p t us ≡ found_in f q t us
unfolding found_in
same-tests f p q t [] h = refl
same-tests f p q t (u ∷ us) h = grind (arith, h u, same-tests f p q t us h)

-- of carriers of which one is in the mask all broken instances are touched
pub all-touched : (s : Search) (mask : ℕ) (t : List ℕ) (us : List (List ℕ)) → meets mask t ≡ true → touched_in s mask t us ≡ broken_in s t us
all-touched s mask t us h =
    same-tests (conflict_of s.show.now s.ats.now s.kind) (is_touched s.show.now s.ats.now s.kind mask) (is_broken s.show.now s.ats.now s.kind) t us
    (λ u. touched-met s.show.now s.ats.now s.kind mask (t ++ u) (met-front mask t u h))

pub shut : (s : Search) (mask : ℕ) (t : List ℕ) (k : ℕ) (a : Tally) → is_open s.ats.now t ≡ false → Extends a a (touched_in s mask t (tuples k (upto (length s.ats.now))))
shut s mask t k a h =
    nothing a _ (found-none _ _ t (tuples k (upto (length s.ats.now)))
    (λ u. touched-unbroken s.show.now s.ats.now s.kind mask (t ++ u) (broken-no_candidate s.show.now s.ats.now s.kind (t ++ u) (closed s.show.now s.ats.now s.kind t u h))))

-- ---- the last role

-- a carrier in the last role that is not of the mask, behind carriers that are not
pub skip-other : (s : Search) (mask : ℕ) (t : List ℕ) (n i : ℕ) (a b : Tally) → meets mask t ≡ false → has_bit mask i ≡ false →
    Extends a b (touched_in s mask t (begun 0 (upto n) (upto i))) → Extends a b (touched_in s mask t (begun 0 (upto n) (upto (i + 1))))
skip-other s mask t n i a b h k x =
    skip _ _ t 0 n i a b x (one _ _ (t ++ i ∷ []) n (touched-not_met s.show.now s.ats.now s.kind mask (t ++ i ∷ []) (met-push mask t i ∙ ap (λ z. z || has_bit mask i) h ∙ k)))

pub skip-far : (s : Search) (mask : ℕ) (t : List ℕ) (n i : ℕ) (a b : Tally) → is_broken s.show.now s.ats.now s.kind (t ++ i ∷ []) ≡ false →
    Extends a b (touched_in s mask t (begun 0 (upto n) (upto i))) → Extends a b (touched_in s mask t (begun 0 (upto n) (upto (i + 1))))
skip-far s mask t n i a b h x = skip _ _ t 0 n i a b x (one _ _ (t ++ i ∷ []) n (touched-unbroken s.show.now s.ats.now s.kind mask (t ++ i ∷ []) h))

-- a carrier of the mask in the last role
pub judged : (s : Search) (mask : ℕ) (t : List ℕ) (n i : ℕ) (a b c : Tally) → has_bit mask i ≡ true → Extends a b (touched_in s mask t (begun 0 (upto n) (upto i))) →
    Extends b c (broken_in s (t ++ i ∷ []) ([] ∷ [])) → Extends a c (touched_in s mask t (begun 0 (upto n) (upto (i + 1))))
judged s mask t n i a b c h x y =
    let met : meets mask (t ++ i ∷ []) ≡ true = met-push mask t i ∙ ap (λ z. meets mask t || z) h ∙ or-true (meets mask t) in
    more _ _ t 0 n i a b c x (same-more b c _ _ (sym (all-touched s mask (t ++ i ∷ []) (tuples 0 (upto n)) met ∙ ap (broken_in s (t ++ i ∷ [])) (tuples-zero (upto n)))) y)

-- ---- the last role but one

pub quiet-touched : (s : Search) (p : Pairings) (mask : ℕ) (t : List ℕ) (c : ℕ) → IsReady s → HasTouching p s mask → length t + 2 ≡ roles_of s.kind → meets mask t ≡ false →
    c < length s.ats.now → has_bit (mask_near p (partial_of s t)) c ≡ false → touched_in s mask (t ++ c ∷ []) (tuples 1 (upto (length s.ats.now))) ≡ []
quiet-touched s p mask t c r h n others i out =
    blank-all _ _ (t ++ c ∷ []) 0 (length s.ats.now) (λ d j.
    let u = (t ++ c ∷ []) ++ d ∷ [] in
    let met : meets mask u ≡ (has_bit mask c || has_bit mask d) = met-push mask (t ++ c ∷ []) d ∙ ap (λ z. z || has_bit mask d) (met-push mask t c ∙ ap (λ z. z || has_bit mask c) others) in
    let quiet : is_touched s.show.now s.ats.now s.kind mask u ≡ false = elim (cases_Bool (has_bit mask c || has_bit mask d)) [
      | inl e ↦ touched-unbroken s.show.now s.ats.now s.kind mask u (unbroken s p t c d r h.wide n j (h.pairs c d i j e) out)
      | inr e ↦ touched-not_met s.show.now s.ats.now s.kind mask u (met ∙ e)
    ] in
    one _ _ u (length s.ats.now) quiet)
