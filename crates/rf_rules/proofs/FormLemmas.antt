-- Lemmas on forms over carriers.
use Rattle.std.proofs.Common.{◌≡◌, ◌≤◌, ◌+◌, ℕ, ℤ, pos, ◌+ℤ◌, ◌*ℤ◌, unsigned_abs, List, [], ◌∷◌, ◌++◌, map, length, get_or, refl, ap, sym, ◌∙◌, arith, inl, inr}
use Rattle.std.specs.Prelude.{All, Option, None, unwrap_or, max, ◌-◌, true, ◌==◌, find}
use Rattle.std.specs.List.{list_all, slice_get}
use Rattle.std.proofs.lemmas.Int.{ints, unsigned_abs-mul}
use Rattle.std.proofs.lemmas.Nat.{mul-le}
use Rattle.std.proofs.lemmas.List.{map-append, length-map, get_or_past, get_or_append_left, get_or_at}
use Rattle.std.proofs.lemmas.List.Folds.{list_all-map}
use Rattle.rf_rules.proofs.PlanLaws.{each-at}
use Rattle.std.proofs.lemmas.Bool.Decides.{nat_tests}
use Rattle.std.proofs.lemmas.Bool.{cases_lt}
use Rattle.std.proofs.lemmas.Option.{slice_get_past}
use Rattle.std.specs.Option.{option_and_then, option_map_or}
use Rattle.rf_profiles.specs.Profile as profile
use Rattle.rf_show.specs.declared.carrier.Carrier.{Carrier}
use Rattle.std.proofs.Math.IntN.{zero-*ℤ}
use Rattle.rf_terms.specs.Kinds.{coefficients_of, roles_of}
use Rattle.rf_terms.specs.Forms.{form, value_of}
use Rattle.rf_terms.specs.declared.kind.Kind.{Kind}
use Rattle.rf_terms.specs.declared.kind.Kind.TheVariants.{Spacing}
use Rattle.rf_show.specs.Show.{ShowData, is_profile}
use Rattle.rf_show.specs.Query.{asked, margin_of}
use Rattle.rf_rules.specs.Tuples.{upto}
use Rattle.rf_rules.specs.Instances.{IsLimited, distance_of, khz_in, khzs_in}
use Rattle.rf_rules.specs.Searches.{floor_of, lane_of}
use Rattle.rf_rules.specs.declared.lane.Lane.{Lane}

pub abs-mul : (c x : ℤ) → unsigned_abs c ≤ 8 → unsigned_abs x ≤ 10000000 → unsigned_abs (c *ℤ x) ≤ 80000000
abs-mul c x p q = omega (arith, unsigned_abs-mul c x, mul-le (unsigned_abs c) (unsigned_abs x) 8 10000000 p q)

form-push : (cs xs : List ℤ) (x : ℤ) → form cs (xs ++ x ∷ []) ≡ form cs xs +ℤ (get_or cs (length xs) (pos 0) *ℤ x)
form-push [] [] x = sym (ap (λ (k : ℤ). pos 0 +ℤ k) (zero-*ℤ x))
form-push [] (y ∷ xs) x = sym (ap (λ (k : ℤ). pos 0 +ℤ k) (zero-*ℤ x))
form-push (c ∷ []) [] x = omega (arith, ints)
form-push (c ∷ d ∷ cs) [] x = omega (arith, ints)
form-push (c ∷ cs) (y ∷ xs) x =
    let e : form cs (xs ++ x ∷ []) ≡ form cs xs +ℤ (get_or cs (length xs) (pos 0) *ℤ x) = form-push cs xs x in
    omega (arith, ints, e)

-- the form with one carrier more
pub partial-push : (kind : Kind) (ats : List (Option ℕ)) (t : List ℕ) (c : ℕ) →
    value_of kind (khzs_in ats (t ++ c ∷ [])) ≡ value_of kind (khzs_in ats t) +ℤ (get_or (coefficients_of kind) (length t) (pos 0) *ℤ pos (khz_in ats c))
partial-push kind ats t c =
    let e : map pos (khzs_in ats (t ++ c ∷ [])) ≡ map pos (khzs_in ats t) ++ pos (khz_in ats c) ∷ [] =
    ap (map pos) (map-append (khz_in ats) t (c ∷ [])) ∙ map-append (λ f. pos f) (khzs_in ats t) (khz_in ats c ∷ []) in
    let n : length (map pos (khzs_in ats t)) ≡ length t = length-map (khzs_in ats t) (λ f. pos f) ∙ length-map t (khz_in ats) in
    ap (form (coefficients_of kind)) e ∙ form-push (coefficients_of kind) (map pos (khzs_in ats t)) (pos (khz_in ats c)) ∙
    ap (λ k. form (coefficients_of kind) (map pos (khzs_in ats t)) +ℤ (get_or (coefficients_of kind) k (pos 0) *ℤ pos (khz_in ats c))) n

pub khz-limited : (ats : List (Option ℕ)) (c : ℕ) → All IsLimited ats → khz_in ats c ≤ 10000000
khz-limited ats c h =
    elim (cases_lt c (length ats)) [
      | inl p ↦ h c None p
      | inr p ↦ let e : get_or ats c None ≡ None = get_or_past ats c None p in
          let f : khz_in ats c ≡ 0 = ap (λ (k : Option ℕ). unwrap_or k 0) e in
          omega (arith, f)
    ]

-- a lane's term is that of the last role
pub lane-term : (show : ShowData) (ats : List (Option ℕ)) (kind : Kind) (t : List ℕ) (c : ℕ) → length t + 1 ≡ roles_of kind →
    (lane_of show ats kind c).term ≡ get_or (coefficients_of kind) (length t) (pos 0) *ℤ pos (khz_in ats c)
lane-term show ats kind t c n =
    let i : roles_of kind - 1 ≡ length t = omega (arith, n) in
    ap (λ k. get_or (coefficients_of kind) k (pos 0) *ℤ pos (khz_in ats c)) i

-- the last carrier's asks, and the first's
pub margin-push : (show : ShowData) (kind : Kind) (t : List ℕ) (c : ℕ) → length t + 1 ≡ roles_of kind → margin_of show kind (t ++ c ∷ []) ≡ max (floor_of show kind (get_or t 0 0)) (asked show kind c)
margin-push show Spacing t c n =
    let a : get_or (t ++ c ∷ []) 0 0 ≡ get_or t 0 0 = get_or_append_left t (c ∷ []) 0 0 (omega (arith, n)) in
    let b : get_or (t ++ c ∷ []) 1 0 ≡ c = get_or_at t c [] 0 1 (omega (arith, n)) in
    rw (a, b) refl
margin-push show kind t c n =
    let b : get_or (t ++ c ∷ []) (roles_of kind - 1) 0 ≡ c = get_or_at t c [] 0 (roles_of kind - 1) (omega (arith, n)) in
    ap (asked show kind) b ∙ omega arith

pub distance-is : (kind : Kind) (ats : List (Option ℕ)) (t : List ℕ) (z : ℤ) → z ≡ value_of kind (khzs_in ats t) → unsigned_abs z ≡ distance_of ats kind t
unfolding distance_of
distance-is kind ats t z e = ap unsigned_abs e

-- a first role asks no more than a last one does
pub first-le : (show : ShowData) (kind : Kind) (c : ℕ) → floor_of show kind c ≤ asked show kind c
first-le show Spacing c = omega arith
first-le show _ c = omega arith

pub floor-spacing : (show : ShowData) (kind : Kind) (c : ℕ) → kind ≡ Spacing → asked show kind c ≡ floor_of show kind c
floor-spacing show kind c e = rw e refl

-- where no carrier asks anything, no list of carriers does
margin-none : (show : ShowData) (kind : Kind) (t : List ℕ) → ((c : ℕ) → asked show kind c ≡ 0) → margin_of show kind t ≡ 0
margin-none show Spacing t h = omega (arith, h (get_or t 0 0), h (get_or t 1 0))
margin-none show kind t h = h (get_or t (roles_of kind - 1) 0)

pub asked-past : (show : ShowData) (kind : Kind) (c : ℕ) → length show.carriers ≤ c → asked show kind c ≡ 0
asked-past show kind c h =
    let e : slice_get show.carriers c ≡ None = slice_get_past show.carriers c h in
    ap (λ o. option_map_or (λ p. profile.margin_of p kind) (option_and_then (λ (x : Carrier). find (is_profile x.profile) show.profiles) o) 0) e

pub nothing-asked : (show : ShowData) (ats : List (Option ℕ)) (kind : Kind) (t : List ℕ) → length ats ≡ length show.carriers →
    list_all (λ (l : Lane). l.needs == 0) (map (lane_of show ats kind) (upto (length ats))) ≡ true → margin_of show kind t ≡ 0
nothing-asked show ats kind t n h =
    let each : list_all (λ c. asked show kind c == 0) (upto (length ats)) ≡ true = sym (list_all-map (λ (l : Lane). l.needs == 0) (lane_of show ats kind) (upto (length ats))) ∙ h in
    margin-none show kind t (λ c. elim (cases_lt c (length ats)) [
      | inl p ↦ let r : (asked show kind c == 0) ≡ true = each-at (λ d. asked show kind d == 0) (length ats) c each p in grind (arith, nat_tests, r)
      | inr p ↦ asked-past show kind c (omega (arith, p, n))
    ])
