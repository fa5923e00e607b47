-- Lemmas on questions about a show.
use Rattle.std.proofs.Common.{◌≡◌, ◌<◌, ◌≤◌, ℕ, Bool, true, false, cond, List, [], ◌∷◌, length, get_or, Option, Some, None, arith, inl, inr, refl, sym, ap, ◌∙◌, find, is_some, IsSome}
use Rattle.std.proofs.Common.{IfSome, IfNone, All, nat_le, Contains, slice_get, nat_eq, ◌==◌, leb-true}
use Rattle.std.specs.List.{list_all, list_any}
use Rattle.std.proofs.lemmas.Bool.{false≢true, and_parts}
use Rattle.std.proofs.lemmas.Bool.Decides.{nat_tests}
use Rattle.std.proofs.lemmas.Option.{slice_get-get_or, slice_get_cases, get_or_from_slice_get}
use Rattle.std.specs.Option.{option_and_then, option_copied}
use denote.Bor.{Bor}
use Rattle.std.proofs.lemmas.Map.Views.{Contains-from_any}
use Rattle.std.proofs.lemmas.List.Folds.{list_any_at}
use Rattle.std.proofs.lemmas.List.Sums.{AllPass-from_list_all}
use Rattle.rf_profiles.specs.Profile.{margin_widths}
use Rattle.rf_profiles.specs.declared.profile.Profile.{Profile}
use Rattle.rf_show.specs.Limits.{widest}
use Rattle.rf_show.specs.Show.{ShowData, is_narrow, belongs, has_profile, is_profile, is_show}
use Rattle.rf_show.specs.Query.{profile_of}
use Rattle.rf_show.proofs.KeptLaws.{carriers_kept, kept, profiles_kept}
use Rattle.rf_show.specs.declared.carrier.Carrier.{Carrier}

-- the profile of each carrier is there
pub carrier-has_profile : (show : ShowData) (c : ℕ) (d : Carrier) → is_show show ≡ true → c < length show.carriers → has_profile show.profiles (get_or show.carriers c d).profile ≡ true
carrier-has_profile show c d h p =
    (and_parts _ _ (AllPass-from_list_all (belongs show.profiles show.zones) show.carriers (carriers_kept show.profiles show.zones show.carriers (kept show h).carriers).placed c d p)).0

pub profile-is : (show : ShowData) (c : ℕ) (d : Carrier) → c < length show.carriers → profile_of show c ≡ find (is_profile (get_or show.carriers c d).profile) show.profiles
profile-is show c d p =
    ap (λ o. option_and_then (λ (x : Carrier). find (is_profile x.profile) show.profiles) o) (slice_get-get_or show.carriers c d p)

-- what is behind a reference is there where the reference is
pub is_some-copied : {T : Type 0} (o : Option (Bor T)) → is_some (option_copied o) ≡ true → IsSome o
is_some-copied None h = h
is_some-copied (Some x) h = refl

none-any : (xs : List ℕ) (f : ℕ) (b : Bool) → list_any (λ g. f == g) xs ≡ b → ¬ Contains xs f → false ≡ b
none-any xs f true e h = absurd (h (Contains-from_any {eq = nat_eq} (λ x y t. grind (arith, nat_tests, t)) f xs e))
none-any xs f false e h = refl

-- an index of a number, or none
pub index-some : (xs : List ℕ) (f : ℕ) (o : Option ℕ) → IfSome o (λ k. slice_get xs k ≡ Some f) → IfNone o (¬ Contains xs f) → is_some o ≡ list_any (λ g. f == g) xs
index-some xs f None p q = none-any xs f (list_any (λ g. f == g) xs) refl q
index-some xs f (Some k) p q =
    sym (elim (slice_get_cases xs k).1 [
      | inl w ↦ list_any_at (λ g. f == g) xs k w.0 w.1 (let e : get_or xs k w.0 ≡ f = get_or_from_slice_get xs k f w.0 p in grind (arith, nat_tests, e))
      | inr w ↦ absurd (let e : None ≡ Some f = sym w.1 ∙ p in false≢true (ap is_some e))
    ])

found_cond : (b : Bool) (p q : Profile) (o : Option Profile) → cond b (Some p) o ≡ Some q → is_narrow p ≡ true → (o ≡ Some q → is_narrow q ≡ true) → is_narrow q ≡ true
found_cond true p q o h now rest = let e : p ≡ q = cc in sym (ap is_narrow e) ∙ now
found_cond false p q o h now rest = rest h

found-all : (ps : List Profile) (name : List ℕ) (q : Profile) → list_all is_narrow ps ≡ true → find (is_profile name) ps ≡ Some q → is_narrow q ≡ true
found-all [] name q all h = cc
found-all (p ∷ ps) name q all h =
    let parts = and_parts (is_narrow p) _ all in
    found_cond (is_profile name p) p q (find (is_profile name) ps) h parts.0 (found-all ps name q parts.1)

-- a profile that is found asks nothing that is too wide
pub found-narrow : (show : ShowData) (name : List ℕ) (q : Profile) → is_show show ≡ true → find (is_profile name) show.profiles ≡ Some q → is_narrow q ≡ true
found-narrow show name q h found = found-all show.profiles name q (profiles_kept show.profiles (kept show h).profiles).narrow found

-- what a profile that asks nothing too wide asks
pub spacing-narrow : (p : Profile) → is_narrow p ≡ true → p.spacing ≤ widest
spacing-narrow p h = leb-true _ _ (and_parts (nat_le p.spacing widest) _ h).0

pub margins-narrow : (p : Profile) → is_narrow p ≡ true → All (λ m. m ≤ widest) (margin_widths p.margins)
margins-narrow p h =
    let all : list_all (λ n. nat_le n widest) (margin_widths p.margins) ≡ true =
    (and_parts (nat_le p.half widest) _ (and_parts (nat_le p.spacing widest) _ h).1).1 in
    λ k d low. leb-true _ _ (AllPass-from_list_all (λ n. nat_le n widest) (margin_widths p.margins) all k d low)
