-- Carriers with which no instance begins.
use Rattle.std.proofs.Common.{◌≡◌, ℕ, Bool, true, false, List, [], ◌∷◌, ◌++◌, refl, ap, ◌∙◌, arith, inl, inr, Option, ◌&&◌, ◌==◌, not, is_some, true≢false}
use Rattle.std.specs.Bool.{OnTrue}
use Rattle.std.specs.List.{list_all, list_any}
use Rattle.std.proofs.lemmas.Bool.{cases_Bool, and_parts}
use Rattle.std.proofs.lemmas.Bool.Decides.{nat_tests}
use Rattle.std.proofs.lemmas.List.Folds.{list_all-append, list_any-append}
use Rattle.rf_terms.specs.Kinds.{roles_of}
use Rattle.rf_terms.specs.declared.kind.Kind.{Kind}
use Rattle.rf_show.specs.Show.{ShowData}
use Rattle.rf_show.specs.Query.{are_joined}
use Rattle.rf_rules.specs.Instances.{are_assigned, at_in, is_candidate, is_open, is_distinct, is_in_order, is_instance}
use mathlib.Core.Bool.{and-false, or-true}
use Rattle.rf_base.proofs.NumberLaws.{eq_swap}

all-false : {X : Type 0} (p : X → Bool) (xs ys : List X) (x : X) → p x ≡ false → list_all p (xs ++ x ∷ ys) ≡ false
all-false p xs ys x h = list_all-append p xs (x ∷ ys) ∙ rw h (and-false (list_all p xs))

any-true : (p : ℕ → Bool) (xs ys : List ℕ) (x : ℕ) → p x ≡ true → list_any p (xs ++ x ∷ ys) ≡ true
any-true p xs ys x h = list_any-append p xs (x ∷ ys) ∙ rw h (or-true (list_any p xs))

twice : (t u : List ℕ) (c : ℕ) → list_any (λ y. y == c) t ≡ true → is_distinct (t ++ c ∷ u) ≡ false
twice [] u c h = cc
twice (x ∷ t) u c h = grind (arith, nat_tests, h, twice t u c, any-true (λ d. d == x) t u c)

not-assigned : (show : ShowData) (ats : List (Option ℕ)) (kind : Kind) (t : List ℕ) → are_assigned ats t ≡ false → is_candidate show ats kind t ≡ false
unfolding is_candidate
not-assigned show ats kind t h = rw h refl

pub hopeless-unassigned : (show : ShowData) (ats : List (Option ℕ)) (kind : Kind) (t u : List ℕ) (c : ℕ) → is_some (at_in ats c) ≡ false → is_candidate show ats kind (t ++ c ∷ u) ≡ false
hopeless-unassigned show ats kind t u c h = not-assigned show ats kind (t ++ c ∷ u) (all-false (λ d. is_some (at_in ats d)) t u c h)

no-candidate : (show : ShowData) (ats : List (Option ℕ)) (kind : Kind) (t : List ℕ) → is_instance show kind t ≡ false → is_candidate show ats kind t ≡ false
unfolding is_candidate
no-candidate show ats kind t h = rw h (and-false (are_assigned ats t))

no-instance-distinct : (show : ShowData) (kind : Kind) (t : List ℕ) → is_distinct t ≡ false → is_instance show kind t ≡ false
unfolding is_instance
no-instance-distinct show kind t h = rw h

no-instance-order : (show : ShowData) (kind : Kind) (t : List ℕ) → is_in_order kind t ≡ false → is_instance show kind t ≡ false
unfolding is_instance
no-instance-order show kind t h = grind (arith, h)

pub hopeless-twice : (show : ShowData) (ats : List (Option ℕ)) (kind : Kind) (t u : List ℕ) (c : ℕ) → list_any (λ y. y == c) t ≡ true → is_candidate show ats kind (t ++ c ∷ u) ≡ false
hopeless-twice show ats kind t u c h = no-candidate show ats kind (t ++ c ∷ u) (no-instance-distinct show kind (t ++ c ∷ u) (twice t u c h))

pub hopeless-order : (show : ShowData) (ats : List (Option ℕ)) (kind : Kind) (t u : List ℕ) (c : ℕ) → is_in_order kind (t ++ c ∷ u) ≡ false → is_candidate show ats kind (t ++ c ∷ u) ≡ false
hopeless-order show ats kind t u c h = no-candidate show ats kind (t ++ c ∷ u) (no-instance-order show kind (t ++ c ∷ u) h)

-- ---- the last role, where the others are taken

-- no carrier stands twice, with one more behind them
distinct-push : (t : List ℕ) (c : ℕ) → is_distinct (t ++ c ∷ []) ≡ (is_distinct t && not (list_any (λ d. d == c) t))
distinct-push [] c = refl
distinct-push (x ∷ t) c = grind (arith, nat_tests, list_any-append (λ d. d == x) t (c ∷ []), eq_swap c x, distinct-push t c)

distinct-front : (t u : List ℕ) → is_distinct t ≡ false → is_distinct (t ++ u) ≡ false
distinct-front [] u h = absurd (true≢false h)
distinct-front (x ∷ t) u h = grind (arith, h, distinct-front t u, list_any-append (λ d. d == x) t u)

-- an instance, as soon as the first roles are taken by carriers that are assigned and distinct
pub last-joins : (show : ShowData) (ats : List (Option ℕ)) (kind : Kind) (t : List ℕ) (c : ℕ) → is_open ats t ≡ true → is_some (at_in ats c) ≡ true →
    list_any (λ d. d == c) t ≡ false → is_in_order kind (t ++ c ∷ []) ≡ true → are_joined show (roles_of kind) (t ++ c ∷ []) ≡ is_candidate show ats kind (t ++ c ∷ [])
unfolding is_candidate is_instance
last-joins show ats kind t c h some once ordered =
    let both = and_parts (are_assigned ats t) (is_distinct t) h in
    let a : are_assigned ats (t ++ c ∷ []) ≡ true = list_all-append (λ d. is_some (at_in ats d)) t (c ∷ []) ∙ rw (both.0, some) refl in
    let d : is_distinct (t ++ c ∷ []) ≡ true = distinct-push t c ∙ rw (both.1, once) refl in
    rw (a, d, ordered) refl

-- no instance begins with carriers that are not assigned, or not distinct
pub closed : (show : ShowData) (ats : List (Option ℕ)) (kind : Kind) (t u : List ℕ) → is_open ats t ≡ false → is_candidate show ats kind (t ++ u) ≡ false
closed show ats kind t u h =
    elim (cases_Bool (are_assigned ats t)) [
      | inl e ↦ no-candidate show ats kind (t ++ u) (no-instance-distinct show kind (t ++ u) (distinct-front t u (rw e at h)))
      | inr e ↦ not-assigned show ats kind (t ++ u) (list_all-append (λ d. is_some (at_in ats d)) t u ∙ ap (λ b. b && are_assigned ats u) e)
    ]

-- a fact in the case of true, from another
pub on-true : (b : Bool) (P Q : Type 0) → (P → Q) → OnTrue b P → OnTrue b Q
on-true true P Q f h = f h
on-true false P Q f h = h
