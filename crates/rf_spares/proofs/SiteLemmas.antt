-- A show with newcomers behind its carriers, carrier by carrier.
use Rattle.std.proofs.Common.{◌≡◌, ◌<◌, ◌≤◌, ◌+◌, ◌-◌, ℕ, zero, suc, true, false, List, [], ◌∷◌, ◌++◌, length, map, refl, ap, sym, ◌∙◌, arith, inl, inr, get_or}
use Rattle.std.specs.Prelude.{Some, None, find, replicate, slice_get, not}
use Rattle.std.specs.List.{list_any}
use Rattle.std.proofs.lemmas.Bool.{cases_lt, or_parts, not-true, and_parts}
use Rattle.std.proofs.lemmas.List.{get_or_append_left, get_or_push, length_push, get_or-append_right, get_or-map, get_or-replicate, length-append, length-map}
use Rattle.std.proofs.lemmas.Option.{slice_get-get_or}
use Rattle.rf_base.specs.Name.{same_name}
use Rattle.rf_base.proofs.ListLaws.{get_left}
use Rattle.rf_terms.specs.declared.kind.Kind.{Kind}
use Rattle.rf_profiles.specs.Profile as profiles
use Rattle.rf_profiles.specs.Profile.{differ, profile_names}
use Rattle.rf_profiles.specs.declared.profile.Profile.{Profile}
use Rattle.rf_show.specs.Limits.{most_carriers}
use Rattle.rf_show.specs.Query.{asked, meet_at}
use Rattle.rf_show.specs.Show.{ShowData, is_profile, is_show, zone_number}
use Rattle.rf_show.specs.declared.carrier.Carrier.{Carrier}
use Rattle.rf_show.proofs.KeptLaws.{kept, profiles_kept}
use Rattle.rf_rules.specs.Tuples.{upto}
use Rattle.rf_rules.proofs.TupleLaws.{get_or-upto, length-upto}
use Rattle.rf_spares.specs.Crowds.{asked_at, meets, needs_of, times_of, with_newcomers}
use Rattle.rf_spares.specs.Harms.{Site, number_at}
use Rattle.rf_spares.specs.Newcomers.{extended, extended_by, newcomer, profile_name}
use Rattle.rf_base.proofs.NameLaws.{own_name}

-- ---- a list with what holds for newcomers behind it

filled-low : {X Y : Type 0} (g : X → Y) (xs : List X) (v d : Y) (e : X) (c : ℕ) → c < length xs → get_or (with_newcomers (map g xs) v) c d ≡ g (get_or xs c e)
filled-low g xs v d e c h =
    get_or_append_left (map g xs) (replicate (most_carriers - length (map g xs)) v) d c (omega (arith, h, length-map xs g)) ∙ get_or-map g xs c e d h

filled-high : {X : Type 0} (xs : List X) (v d : X) (n c : ℕ) → length xs ≡ n → n ≤ c → c < most_carriers → get_or (with_newcomers xs v) c d ≡ v
filled-high xs v d n c e low high =
    get_or-append_right xs (replicate (most_carriers - length xs) v) n c d e low ∙ get_or-replicate (most_carriers - length xs) (c - n) v d (omega (arith, e, low, high))

-- ---- the profile of this name

apart-at : (name : List ℕ) (ps : List Profile) (i : ℕ) (p : Profile) → list_any (same_name name) (profile_names ps) ≡ false → slice_get ps i ≡ Some p → same_name name p.name ≡ false
apart-at name [] i p h e = cc
apart-at name (q ∷ ps) zero p h e = let f : q ≡ p = cc in rw (← f) (or_parts (same_name name q.name) _ h).0
apart-at name (q ∷ ps) (suc i) p h e = apart-at name ps i p ((or_parts (same_name name q.name) _ h).1) e

find-own : (ps : List Profile) (i : ℕ) (p : Profile) → differ (profile_names ps) ≡ true → slice_get ps i ≡ Some p → find (is_profile p.name) ps ≡ Some p
find-own [] i p h e = e
find-own (q ∷ ps) zero p h e = let f : q ≡ p = cc in rw (f, own_name p.name) refl
find-own (q ∷ ps) (suc i) p h e =
    let both = and_parts (not (list_any (same_name q.name) (profile_names ps))) (differ (profile_names ps)) h in
    rw (apart-at q.name ps i p (not-true _ both.0) e) (find-own ps i p both.1 e)

-- the profile of newcomers, found by its name
pub own-profile : (show : ShowData) (profile : ℕ) (p : Profile) → is_show show ≡ true → slice_get show.profiles profile ≡ Some p
    → find (is_profile (profile_name show profile)) show.profiles ≡ Some p
own-profile show profile p shown e = rw e (find-own show.profiles profile p (profiles_kept show.profiles (kept show shown).profiles).apart e)

-- ---- carrier by carrier

-- what is known of a site
pub record IsSite (s : Site) : Type 0 where
  pub shown : is_show s.show ≡ true
  pub own : Profile
  pub is : slice_get s.show.profiles s.profile ≡ Some own

nobody : Profile
nobody = record { name = []; channels = []; spacing = 0; half = 0; margins = record { m2t3 = 0; m3t3 = 0; m2t5 = 0; m3t5 = 0; m2t7 = 0 } }

pub known-site : (s : Site) → is_show s.show ≡ true → s.profile < length s.show.profiles → IsSite s
known-site s shown low = record { shown = shown; own = get_or s.show.profiles s.profile nobody; is = slice_get-get_or s.show.profiles s.profile nobody low }

-- what a carrier of a show with newcomers at these frequencies has
pub record Place (s : Site) (khzs : List ℕ) (c : ℕ) : Type 0 where
  pub carrier : Carrier
  pub is : slice_get (extended_by s.show s.profile s.zone khzs).carriers c ≡ Some carrier
  pub zone : zone_number s.show.zones carrier.zone ≡ number_at s c
  pub times : carrier.times ≡ get_or (times_of s.show) c []
  pub needs : (kind : Kind) → asked (extended_by s.show s.profile s.zone khzs) kind c ≡ get_or (needs_of s.show s.profile kind) c 0

none : Carrier
none = record { name = []; profile = []; zone = []; times = []; at = None; locked = false }

place-low : (s : Site) (khzs : List ℕ) (c : ℕ) → c < length s.show.carriers → Place s khzs c
place-low s khzs c h =
    let cs = s.show.carriers in
    let old : slice_get cs c ≡ Some (get_or cs c none) = slice_get-get_or cs c none h in
    let new : slice_get (extended_by s.show s.profile s.zone khzs).carriers c ≡ Some (get_or cs c none) = get_left cs _ c _ old in
    record {
      carrier = get_or cs c none;
      is = new;
      zone = sym (filled-low (λ (x : Carrier). zone_number s.show.zones x.zone) cs _ 0 none c h);
      times = sym (filled-low (λ (x : Carrier). x.times) cs [] [] none c h);
      needs = λ kind.
          let asks : asked (extended_by s.show s.profile s.zone khzs) kind c ≡ asked s.show kind c = rw (new, old) refl in
          asks ∙ sym (filled-low (asked s.show kind) (upto (length cs)) _ 0 0 c (omega (arith, h, length-upto (length cs))) ∙ ap (asked s.show kind) (get_or-upto (length cs) c 0 h));
    }

module _ (s : Site) (khzs : List ℕ) (c : ℕ) (low : length s.show.carriers ≤ c) (high : c < length s.show.carriers + length khzs) where
  pub high-is : slice_get (extended_by s.show s.profile s.zone khzs).carriers c ≡ Some (newcomer s.show s.profile s.zone (Some (get_or khzs (c - length s.show.carriers) 0)))
  high-is =
      let cs = s.show.carriers in
      let new : ℕ → Carrier = λ f. newcomer s.show s.profile s.zone (Some f) in
      slice_get-get_or (cs ++ map new khzs) c none (omega (arith, high, length-append cs (map new khzs), length-map khzs new))
      ∙ ap Some (get_or-append_right cs (map new khzs) (length cs) c none refl low ∙ get_or-map new khzs (c - length cs) 0 none (omega (arith, low, high)))

  pub own-asked : IsSite s → (kind : Kind) → asked (extended_by s.show s.profile s.zone khzs) kind c ≡ asked_at s.show s.profile kind
  own-asked known kind = let own = own-profile s.show s.profile known.own known.shown known.is in let is = known.is in rw (high-is, own, is) refl

  place-high : IsSite s → c < most_carriers → Place s khzs c
  place-high known few =
      let cs = s.show.carriers in
      record {
        carrier = newcomer s.show s.profile s.zone (Some (get_or khzs (c - length cs) 0));
        is = high-is;
        zone = sym (filled-high (map (λ x. zone_number s.show.zones x.zone) cs) _ 0 (length cs) c (length-map cs (λ x. zone_number s.show.zones x.zone)) low few);
        times = sym (filled-high (map (λ x. x.times) cs) [] [] (length cs) c (length-map cs (λ x. x.times)) low few);
        needs = λ kind. own-asked known kind
            ∙ sym (filled-high (map (asked s.show kind) (upto (length cs))) _ 0 (length cs) c (length-map (upto (length cs)) (asked s.show kind) ∙ length-upto (length cs)) low few);
      }

pub place : (s : Site) (khzs : List ℕ) (c : ℕ) → IsSite s → c < length s.show.carriers + length khzs → c < most_carriers → Place s khzs c
place s khzs c known high few =
    elim (cases_lt c (length s.show.carriers)) [
      | inl low ↦ place-low s khzs c low
      | inr low ↦ place-high s khzs c low high known few
    ]

-- two carriers may be together in a set of so many
pub place-meets : (s : Site) (khzs : List ℕ) (size a b : ℕ) → Place s khzs a → Place s khzs b
    → meet_at size s.show.zones (extended_by s.show s.profile s.zone khzs).carriers a b ≡ meets s.show.zones size (number_at s a) (number_at s b)
place-meets s khzs size a b p q = rw (p.is, q.is) (rw (p.zone, q.zone) refl)

-- the last carrier of a show with one newcomer more
pub last-carrier : (show : ShowData) (profile zone f : ℕ) → slice_get (extended show profile zone f).carriers (length show.carriers) ≡ Some (newcomer show profile zone (Some f))
last-carrier show profile zone f =
    let new = newcomer show profile zone (Some f) in
    slice_get-get_or (show.carriers ++ new ∷ []) (length show.carriers) none (omega (arith, length_push show.carriers new)) ∙ ap Some (get_or_push show.carriers new none _ refl)
