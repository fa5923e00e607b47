-- A show that is raised is a show.
use Rattle.std.proofs.Common.{◌≡◌, ◌+◌, ◌<◌, ◌≤◌, ℕ, zero, suc, true, List, [], ◌∷◌, ◌++◌, length, map, take, drop, get_or, set, refl, ap, sym, ◌∙◌, arith}
use Rattle.std.specs.List.{list_all, list_any}
use Rattle.std.proofs.lemmas.List.{length-map}
use Rattle.rf_base.specs.Name.{same_name}
use Rattle.rf_profiles.specs.Profile.{differ, is_width, profile_names, wider_profile, widths}
use Rattle.rf_profiles.specs.declared.profile.Profile.{Profile}
use Rattle.rf_profiles.proofs.WiderLaws.{wider_within}
use Rattle.rf_show.specs.Limits.{most_raised}
use Rattle.rf_show.specs.Raised.{is_textual, raised}
use Rattle.rf_show.specs.Show.{ShowData, is_narrow, is_show}
use Rattle.rf_show.proofs.EditedLemmas.{has_profile_names, wider_kept}
use Rattle.rf_show.proofs.KeptLaws.{Kept, are_kept_profiles, is_kept, kept, profiles_kept}
use Rattle.std.proofs.lemmas.Bool.{and_from, and_parts}

raised_names : (ps : List Profile) (extra : ℕ) → profile_names (map (wider_profile extra) ps) ≡ profile_names ps
raised_names [] extra = refl
raised_names (p ∷ ps) extra = ap (λ names. p.name ∷ names) (raised_names ps extra)

raised_narrow : (ps : List Profile) (extra : ℕ) → extra ≤ most_raised → list_all (λ p. list_all is_width (widths p)) ps ≡ true → list_all is_narrow (map (wider_profile extra) ps) ≡ true
raised_narrow [] extra few h = refl
raised_narrow (p ∷ ps) extra few h =
    let parts = and_parts (list_all is_width (widths p)) _ h in
    and_from _ _ (wider_within extra p parts.0 few) (raised_narrow ps extra few parts.1)

raised_kept : (s : ShowData) (extra : ℕ) → extra ≤ most_raised → is_textual s ≡ true → Kept s → Kept (raised s extra)
raised_kept s extra few textual k =
    let ps : List Profile = map (wider_profile extra) s.profiles in
    let own = profiles_kept s.profiles k.profiles in
    record {
      profiles = are_kept_profiles ps (record {
        few = rw (length-map s.profiles (wider_profile extra)) own.few;
        apart = ap differ (raised_names s.profiles extra) ∙ own.apart;
        narrow = raised_narrow s.profiles extra few textual;
      });
      carriers = wider_kept s.profiles ps s.zones s.zones s.carriers
          (λ n. λ h. has_profile_names ps n ∙ ap (list_any (λ m. same_name m n)) (raised_names s.profiles extra) ∙ sym (has_profile_names s.profiles n) ∙ h)
          (λ n. λ h. h) k.carriers;
      bans = k.bans;
      scans = k.scans;
    }

pub raised_shown : (s : ShowData) (extra : ℕ) → extra ≤ most_raised → is_textual s ≡ true → is_show s ≡ true → is_show (raised s extra) ≡ true
raised_shown s extra few textual h = is_kept (raised s extra) (raised_kept s extra few textual (kept s h))

-- one element more of a list is mapped
mapped_more : {X : Type 0} (f : X → X) (xs : List X) (i : ℕ) (d : X) → i < length xs
    → set (map f (take i xs) ++ drop i xs) i (f (get_or (map f (take i xs) ++ drop i xs) i d)) ≡ map f (take (suc i) xs) ++ drop (suc i) xs
mapped_more f [] i d h = absurd (omega (arith, h))
mapped_more f (y ∷ xs) zero d h = refl
mapped_more f (y ∷ xs) (suc i) d h = ap (λ q. f y ∷ q) (mapped_more f xs i d (omega (arith, h)))

pub mapped_step : {X : Type 0} (f : X → X) (xs ps : List X) (i : ℕ) (d y : X) → i < length xs → ps ≡ map f (take i xs) ++ drop i xs → y ≡ f (get_or ps i d)
    → set ps i y ≡ map f (take (i + 1) xs) ++ drop (i + 1) xs
mapped_step f xs ps i d y h is made = let next : i + 1 ≡ suc i = omega arith in rw (next, made, is) (mapped_more f xs i d h)
