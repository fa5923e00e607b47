use Rattle.std.specs.Prelude.{ℕ, Bool, true, List, [], ◌&&◌, ◌||◌, not, map, nat_abs, nat_le, length, Option, Some, None, find, is_some, unwrap_or}
use Rattle.std.specs.List.{list_all, list_any}
use Rattle.rf_base.specs.Name.{same_name}
use Rattle.rf_base.specs.declared.decimal.Decimal.{Decimal}
use Rattle.rf_exclusions.specs.declared.ban.Ban.{Ban}
use Rattle.rf_exclusions.specs.declared.scan_set.ScanSet.{ScanSet}
use Rattle.rf_profiles.specs.Profile.{differ, profile_names, widths}
use Rattle.rf_profiles.specs.declared.profile.Profile.{Profile}
use Rattle.rf_zones.specs.Zones.{ZonesData, first_zones, zone_of}
use Rattle.rf_show.specs.declared.carrier.Carrier.{Carrier}
use Rattle.rf_show.specs.Limits.{farthest_threshold, most_bans, most_carriers, most_profiles, most_scans, widest, widest_scan}

-- a show, as a record of lists, each in the order in which things were added
pub record ShowData : Type 0 where
  pub profiles : List Profile
  pub zones : ZonesData
  pub carriers : List Carrier
  pub bans : List Ban
  pub scans : List ScanSet

-- the show with the zone `main` alone
abbrev pub first_show : ShowData
first_show = record { profiles = []; zones = first_zones; carriers = []; bans = []; scans = [] }

-- ---- names

abbrev pub is_carrier : List ℕ → Carrier → Bool
is_carrier name c = same_name c.name name

abbrev pub is_profile : List ℕ → Profile → Bool
is_profile name p = same_name p.name name

-- the carrier of this name
abbrev pub carrier_named : List Carrier → List ℕ → Option Carrier
carrier_named carriers name = find (is_carrier name) carriers

abbrev pub has_carrier : List Carrier → List ℕ → Bool
has_carrier carriers name = is_some (carrier_named carriers name)

-- the profile of this name
abbrev pub profile_named : List Profile → List ℕ → Option Profile
profile_named profiles name = find (is_profile name) profiles

abbrev pub has_profile : List Profile → List ℕ → Bool
has_profile profiles name = is_some (profile_named profiles name)

-- whether a carrier has the profile of this name
abbrev pub is_used : List Carrier → List ℕ → Bool
is_used carriers name = list_any (λ c. same_name c.profile name) carriers

abbrev pub has_zone : ZonesData → List ℕ → Bool
has_zone zones name = is_some (zone_of zones name)

-- whether a zone is there, or all zones are meant
abbrev pub has_zone_or_all : ZonesData → Option (List ℕ) → Bool
has_zone_or_all zones None = true
has_zone_or_all zones (Some name) = has_zone zones name

-- the number of the zone of this name, which is there
abbrev pub zone_number : ZonesData → List ℕ → ℕ
zone_number zones name = unwrap_or (zone_of zones name) 0

-- ---- what every show keeps

abbrev pub carrier_names : List Carrier → List (List ℕ)
carrier_names carriers = map (λ c. c.name) carriers

-- whether no spacing, half width or margin is too large for a show
abbrev pub is_narrow : Profile → Bool
is_narrow p = list_all (λ n. nat_le n widest) (widths p)

-- whether the profile and the zone of a carrier are there
abbrev pub belongs : List Profile → ZonesData → Carrier → Bool
belongs profiles zones c = has_profile profiles c.profile && has_zone zones c.zone

-- a carrier that is locked has a frequency
abbrev pub is_steady : Carrier → Bool
is_steady c = not c.locked || is_some c.at

-- whether a scan may have this threshold, from -200 to 200
abbrev pub is_threshold : Decimal → Bool
is_threshold threshold = nat_le (nat_abs threshold.0) farthest_threshold

-- whether the zone of a ban is there, and its numbers are in order
abbrev pub is_ban : ZonesData → Ban → Bool
is_ban zones ban = has_zone_or_all zones ban.zone && nat_le ban.lo ban.hi

-- whether the zone of a scan is there, and its numbers are in range
abbrev pub is_scan : ZonesData → ScanSet → Bool
is_scan zones scan = has_zone zones scan.zone && is_threshold scan.threshold && nat_le scan.width widest_scan

abbrev pub are_profiles : List Profile → Bool
are_profiles profiles =
    nat_le (length profiles) most_profiles && differ (profile_names profiles) && list_all is_narrow profiles

abbrev pub are_carriers : List Profile → ZonesData → List Carrier → Bool
are_carriers profiles zones carriers =
    nat_le (length carriers) most_carriers && differ (carrier_names carriers) && list_all (belongs profiles zones) carriers
    && list_all is_steady carriers

abbrev pub are_bans : ZonesData → List Ban → Bool
are_bans zones bans = nat_le (length bans) most_bans && list_all (is_ban zones) bans

abbrev pub are_scans : ZonesData → List ScanSet → Bool
are_scans zones scans = nat_le (length scans) most_scans && list_all (is_scan zones) scans

-- What every show keeps: the limits, names that differ, the bounds of numbers, that what is named is there, and that what is
-- locked has a frequency.
unfoldable pub is_show : ShowData → Bool
is_show show =
    are_profiles show.profiles && are_carriers show.profiles show.zones show.carriers
    && are_bans show.zones show.bans && are_scans show.zones show.scans
