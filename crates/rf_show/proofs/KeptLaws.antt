use Rattle.std.proofs.Common.{◌≡◌, ◌≤◌, true, List, length, refl, le-leb, leb-true, IsTrue}
use Rattle.std.specs.List.{list_all}
use Rattle.std.proofs.lemmas.Bool.{and_parts, and_from}
use Rattle.rf_profiles.specs.declared.profile.Profile.{Profile}
use Rattle.rf_zones.specs.Zones.{ZonesData}
use Rattle.rf_show.specs.declared.carrier.Carrier.{Carrier}
use Rattle.rf_show.specs.Limits.{most_carriers, most_profiles}
use Rattle.rf_profiles.specs.Profile.{differ, profile_names}
use Rattle.rf_show.specs.Show.{ShowData, first_show, is_show, are_profiles, are_carriers, are_bans, are_scans, carrier_names, is_narrow, is_steady, belongs}
use Rattle.std.proofs.lemmas.List.{length-map}

-- what every show keeps, part by part
pub record Kept (s : ShowData) : Type 0 where
  pub profiles : are_profiles s.profiles ≡ true
  pub carriers : are_carriers s.profiles s.zones s.carriers ≡ true
  pub bans : are_bans s.zones s.bans ≡ true
  pub scans : are_scans s.zones s.scans ≡ true

pub kept : (s : ShowData) → is_show s ≡ true → Kept s
unfolding is_show
kept s h =
    let scans = and_parts _ _ h in
    let bans = and_parts _ _ scans.0 in
    let lists = and_parts _ _ bans.0 in
    record { profiles = lists.0; carriers = lists.1; bans = bans.1; scans = scans.1 }

pub is_kept : (s : ShowData) → Kept s → is_show s ≡ true
unfolding is_show
is_kept s k = and_from _ _ (and_from _ _ (and_from _ _ k.profiles k.carriers) k.bans) k.scans

pub first_kept : is_show first_show ≡ true
unfolding is_show
first_kept = refl

-- what the profiles keep
pub record ProfilesKept (ps : List Profile) : Type 0 where
  pub few : length ps ≤ most_profiles
  pub apart : differ (profile_names ps) ≡ true
  pub narrow : list_all is_narrow ps ≡ true

pub profiles_kept : (ps : List Profile) → are_profiles ps ≡ true → ProfilesKept ps
profiles_kept ps h =
    let narrow = and_parts _ _ h in
    let names = and_parts _ _ narrow.0 in
    record { few = leb-true _ _ names.0; apart = names.1; narrow = narrow.1 }

pub are_kept_profiles : (ps : List Profile) → ProfilesKept ps → are_profiles ps ≡ true
are_kept_profiles ps k = and_from _ _ (and_from _ _ (le-leb _ _ k.few) k.apart) k.narrow

-- what the carriers keep
pub record CarriersKept (ps : List Profile) (z : ZonesData) (cs : List Carrier) : Type 0 where
  pub few : length cs ≤ most_carriers
  pub apart : differ (carrier_names cs) ≡ true
  pub placed : list_all (belongs ps z) cs ≡ true
  pub steady : list_all is_steady cs ≡ true

pub carriers_kept : (ps : List Profile) (z : ZonesData) (cs : List Carrier) → are_carriers ps z cs ≡ true → CarriersKept ps z cs
carriers_kept ps z cs h =
    let steady = and_parts _ _ h in
    let placed = and_parts _ _ steady.0 in
    let names = and_parts _ _ placed.0 in
    record { few = leb-true _ _ names.0; apart = names.1; placed = placed.1; steady = steady.1 }

pub are_kept_carriers : (ps : List Profile) (z : ZonesData) (cs : List Carrier) → CarriersKept ps z cs → are_carriers ps z cs ≡ true
are_kept_carriers ps z cs k = and_from _ _ (and_from _ _ (and_from _ _ (le-leb _ _ k.few) k.apart) k.placed) k.steady

pub names_differ : (show : ShowData) → IsTrue (is_show show) → differ (carrier_names show.carriers) ≡ true
unfolding is_show
names_differ show h =
    let three = and_parts _ _ h in
    let two = and_parts _ _ three.0 in
    let carriers = and_parts _ _ (and_parts _ _ two.0).1 in
    let named = and_parts _ _ carriers.0 in
    (and_parts _ _ named.0).1

-- the names of a show's carriers are as many as they
pub names_many : (show : ShowData) → length (carrier_names show.carriers) ≡ length show.carriers
names_many show = length-map show.carriers (λ c. c.name)
