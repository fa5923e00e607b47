-- The profiles and the carriers of a show, made by their lines.
use Rattle.std.proofs.Common.{◌≡◌, ◌<◌, ◌≤◌, ◌+◌, ◌++◌, ℕ, List, [], ◌∷◌, Bool, true, false, not, length, length-append, map, find, append_assoc, arith, refl, Some, None, Ok, ◌||◌}
use Rattle.std.specs.Prelude.{nat_le, is_some, IfSome}
use Rattle.std.specs.List.{AllByRecursion, list_all, list_any, flat_map}
use Rattle.std.proofs.lemmas.Bool.{and_parts, or_parts, not-true, le-leb, le-ltb}
use Rattle.std.proofs.lemmas.List.Concat.{flat_map-append}
use Rattle.rf_base.specs.Name.{same_name}
use Rattle.rf_profiles.specs.Channels.{IsChannels, RisesFrom, channels, last_to, most_channels, most_ranges, with_range}
use Rattle.rf_profiles.specs.Profile.{differ, is_width, profile_names, profile_of, widths}
use Rattle.rf_profiles.specs.Range.{IsRange, Span, frequencies, range_of}
use Rattle.rf_profiles.specs.declared.profile.Profile.{Profile}
use Rattle.rf_show.specs.After.{change_first}
use Rattle.rf_show.specs.Limits.{most_profiles, most_carriers, most_intervals}
use Rattle.rf_show.specs.Show.{ShowData, is_profile, belongs, carrier_names, has_profile, has_zone, is_carrier, is_steady}
use Rattle.rf_text.specs.ShowLaw.{HotPointsOf, IsProfile, IsCarrier}
use Rattle.rf_text.specs.Shows.{profile_lines, range_line, ranges_lines, at_lines, carrier_lines, lock_lines, time_line}
use Rattle.rf_text.proofs.MadeLemmas.{all_at, each_made, fits_not, full_not, khz_is, made, map_made, tested_at, made_all}
use Rattle.rf_base.proofs.NameLaws.{own_name}
use Rattle.std.specs.declared.option.Option.{Option}
use Rattle.rf_base.specs.Khz.{IsKhz}
use Rattle.rf_zones.specs.Times.{IsTimes, is_interval}
use Rattle.rf_show.specs.declared.carrier.Carrier.{Carrier}

-- ---- the last of a list

pub find_none : {X : Type 0} (p : X → Bool) (xs : List X) → list_any p xs ≡ false → find p xs ≡ None
find_none p [] h = refl
find_none p (x ∷ xs) h = let q = or_parts (p x) (list_any p xs) h in rw (q.0, find_none p xs q.1) refl

-- the first that passes, where it is the last
pub last_is : {X : Type 0} (p : X → Bool) (f : X → X) (done : List X) (x : X) → list_any p done ≡ false → p x ≡ true
    → (find p (done ++ x ∷ []) ≡ Some x) × (change_first p f (done ++ x ∷ []) ≡ done ++ f x ∷ [])
last_is p f [] x h is = rw is (refl, refl)
last_is p f (y ∷ done) x h is =
    let q = or_parts (p y) (list_any p done) h in
    let more = last_is p f done x q.1 is in
    rw (q.0, more.0, more.1) (refl, refl)

any_at : {X : Type 0} (q : List ℕ → Bool) (g : X → List ℕ) (done : List X) (x : X) (rest : List X) → list_any q (map g (done ++ x ∷ rest)) ≡ false → q (g x) ≡ false
any_at q g [] x rest h = (or_parts (q (g x)) (list_any q (map g rest)) h).0
any_at q g (y ∷ done) x rest h = any_at q g done x rest (or_parts (q (g y)) (list_any q (map g (done ++ x ∷ rest))) h).1

-- a name that is none of those before it
pub differ_fresh : {X : Type 0} (g : X → List ℕ) (done : List X) (x : X) (rest : List X) → differ (map g (done ++ x ∷ rest)) ≡ true → list_any (λ y. same_name (g y) (g x)) done ≡ false
differ_fresh g [] x rest h = refl
differ_fresh g (y ∷ done) x rest h =
    let p = and_parts (not (list_any (same_name (g y)) (map g (done ++ x ∷ rest)))) (differ (map g (done ++ x ∷ rest))) h in
    let apart = any_at (same_name (g y)) g done x rest (not-true _ p.0) in
    rw (apart, differ_fresh g done x rest p.1) refl

-- ---- ranges

range_is : (r : Span) → IsRange r → range_of r.from r.to r.step ≡ Some r
range_is r h =
    let ordered : nat_le r.from r.to ≡ true = le-leb r.from r.to h.ordered in
    rw (khz_is r.from h.low, khz_is r.to h.high, khz_is r.step h.stride, ordered) refl

-- no spacing, half width or margin is wider than a text may give
abbrev pub is_worded : Profile → Bool
is_worded p = list_all is_width (widths p)

-- the profile with these ranges
abbrev with_channels : Profile → List Span → Profile
with_channels p ranges = record p { channels = ranges }

rises_at : (last : ℕ) (have : List Span) (r : Span) (more : List Span) → RisesFrom last (have ++ r ∷ more) → IsRange r × (last_to last have < r.from)
rises_at last [] r more h = (h.0, h.1)
rises_at last (x ∷ have) r more h = rises_at x.to have r more h.2

with_range_is : (have : List Span) (r : Span) (more : List Span) → IsChannels (have ++ r ∷ more) → with_range have r ≡ Ok (have ++ r ∷ [])
with_range_is have r more h =
    let whole : length (channels ((have ++ r ∷ []) ++ more)) ≤ most_channels = rw append_assoc h.many in
    -- the channels of the first ranges are no more than those of all
    let part : length (channels (have ++ r ∷ [])) ≤ most_channels = omega (arith, length-append (channels (have ++ r ∷ [])) (channels more), rw flat_map-append at whole) in
    let low = fits_not (last_to 0 have) r.from (rises_at 0 have r more h.rising).1 in
    rw (low, le-ltb most_channels (length (channels (have ++ r ∷ []))) part, full_not have r more most_ranges h.few) refl

ranges_made : (hot : HotPointsOf) (s : ShowData) (done : List Profile) (p : Profile) (first more : List Span) → s.carriers ≡ [] → list_any (is_profile p.name) done ≡ false
    → IsChannels (first ++ more)
    → made hot (record s { profiles = done ++ with_channels p first ∷ [] }) (map (range_line p.name) more) ≡ Some (record s { profiles = done ++ with_channels p (first ++ more) ∷ [] })
ranges_made hot s done p first more none new valid =
    map_made hot (λ all. record s { profiles = done ++ with_channels p all ∷ [] }) (range_line p.name) IsChannels
    (λ have r more h. let l = last_is (is_profile p.name) (λ q. record q { channels = q.channels ++ r ∷ [] }) done (with_channels p have) new (own_name p.name) in
    rw (none, l.0, range_is r (rises_at 0 have r more h.rising).0, with_range_is have r more h, l.1) refl) first more valid

profile_made : (hot : HotPointsOf) (s : ShowData) (done : List Profile) (p : Profile) (ranges : List Span) → s.carriers ≡ [] → list_any (is_profile p.name) done ≡ false
    → is_worded p ≡ true → IsChannels ranges → nat_le most_profiles (length done) ≡ false
    → made hot (record s { profiles = done }) (ranges_lines p ranges) ≡ Some (record s { profiles = done ++ with_channels p ranges ∷ [] })
profile_made hot s done p [] none new narrow valid room = absurd (omega (arith, valid.some))
profile_made hot s done p (r ∷ ranges) none new narrow valid room =
    let few : length (frequencies r) ≤ most_channels = omega (arith, length-append (frequencies r) (channels ranges), valid.many) in
    let made_of : profile_of p.name (r.from ∷ r.to ∷ r.step ∷ widths p) ≡ Some (with_channels p (r ∷ [])) =
    rw (narrow, range_is r valid.rising.0, le-leb (length (frequencies r)) most_channels few) refl in
    rw (find_none (is_profile p.name) done new, made_of, room) (ranges_made hot s done p (r ∷ []) ranges none new valid)

pub profiles_made : (hot : HotPointsOf) (s : ShowData) (profiles : List Profile) → s.carriers ≡ [] → differ (profile_names profiles) ≡ true → list_all is_worded profiles ≡ true
    → AllByRecursion IsProfile profiles → length profiles ≤ most_profiles
    → made hot (record s { profiles = [] }) (flat_map profile_lines profiles) ≡ Some (record s { profiles = profiles })
profiles_made hot s profiles none names narrow valid room =
    each_made hot (λ all. record s { profiles = all }) profile_lines
    (λ all. (differ (profile_names all) ≡ true) × ((list_all is_worded all ≡ true) × (AllByRecursion IsProfile all × (length all ≤ most_profiles))))
    (λ done p more h. profile_made hot s done p p.channels none (differ_fresh (λ q. q.name) done p more h.0) (tested_at is_worded done p more h.1.0)
    (all_at IsProfile done p more h.1.1.0).1 (full_not done p more most_profiles h.1.1.1)) [] profiles (names, (narrow, (valid, room)))

-- ---- carriers

-- a carrier with these intervals, this frequency and this lock
abbrev so_far : Carrier → List (ℕ × ℕ) → Option ℕ → Bool → Carrier
so_far c times at locked = record c { times = times; at = at; locked = locked }

module _ (hot : HotPointsOf) (s : ShowData) (done : List Carrier) (c : Carrier) (new : list_any (is_carrier c.name) done ≡ false) where
  -- the show whose last carrier it is
  abbrev shown_so : List (ℕ × ℕ) → Option ℕ → Bool → ShowData
  shown_so times at locked = record s { carriers = done ++ so_far c times at locked ∷ [] }

  times_made : (times : List (ℕ × ℕ)) → IsTimes times → made hot (shown_so [] None false) (map (time_line c.name) times) ≡ Some (shown_so times None false)
  times_made times valid =
      map_made hot (λ have. shown_so have None false) (time_line c.name) (λ all. (list_all is_interval all ≡ true) × (length all ≤ most_intervals))
      (λ have t more h. let l = last_is (is_carrier c.name) (λ q. record q { times = q.times ++ t ∷ [] }) done (so_far c have None false) new (own_name c.name) in
      rw (l.0, tested_at is_interval have t more h.0, full_not have t more most_intervals h.1, l.1) refl) [] times (valid.valid, valid.few)

  at_made : (times : List (ℕ × ℕ)) (at : Option ℕ) → IfSome at IsKhz → made hot (shown_so times None false) (at_lines c.name at) ≡ Some (shown_so times at false)
  at_made times None khz = refl
  at_made times (Some f) khz =
      let l = last_is (is_carrier c.name) (λ q. record q { at = Some f }) done (so_far c times None false) new (own_name c.name) in
      rw (l.0, khz_is f khz, l.1) refl

  lock_made : (times : List (ℕ × ℕ)) (at : Option ℕ) (locked : Bool) → (not locked || is_some at) ≡ true
      → made hot (shown_so times at false) (lock_lines c.name locked) ≡ Some (shown_so times at locked)
  lock_made times at false steady = refl
  lock_made times at true steady =
      let l = last_is (is_carrier c.name) (λ q. record q { locked = true }) done (so_far c times at false) new (own_name c.name) in
      rw (l.0, steady, l.1) refl

  carrier_made : belongs s.profiles s.zones c ≡ true → nat_le most_carriers (length done) ≡ false → is_steady c ≡ true → IsCarrier c
      → made hot (record s { carriers = done }) (carrier_lines c) ≡ Some (record s { carriers = done ++ c ∷ [] })
  carrier_made there room steady valid =
      let p = and_parts (has_profile s.profiles c.profile) (has_zone s.zones c.zone) there in
      rw (p.0, p.1, find_none (is_carrier c.name) done new, room) (made_all hot _ _ _ (map (time_line c.name) c.times) _ (times_made c.times valid.times)
      (made_all hot _ _ _ (at_lines c.name c.at) _ (at_made c.times c.at valid.at) (lock_made c.times c.at c.locked steady)))

pub carriers_made : (hot : HotPointsOf) (s : ShowData) (carriers : List Carrier) → differ (carrier_names carriers) ≡ true → list_all (belongs s.profiles s.zones) carriers ≡ true
    → list_all is_steady carriers ≡ true → AllByRecursion IsCarrier carriers
    → length carriers ≤ most_carriers → made hot (record s { carriers = [] }) (flat_map carrier_lines carriers) ≡ Some (record s { carriers = carriers })
carriers_made hot s carriers names there steady valid room =
    each_made hot (λ all. record s { carriers = all }) carrier_lines (λ all. (differ (carrier_names all) ≡ true) × ((list_all (belongs s.profiles s.zones) all ≡ true)
    × ((list_all is_steady all ≡ true) × (AllByRecursion IsCarrier all × (length all ≤ most_carriers)))))
    (λ done c more h. carrier_made hot s done c (differ_fresh (λ q. q.name) done c more h.0) (tested_at (belongs s.profiles s.zones) done c more h.1.0)
    (full_not done c more most_carriers h.1.1.1.1) (tested_at is_steady done c more h.1.1.0) (all_at IsCarrier done c more h.1.1.1.0)) [] carriers
    (names, (there, (steady, (valid, room))))
