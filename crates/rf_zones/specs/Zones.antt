use Rattle.std.specs.Prelude.{◌≡◌, ℕ, suc, zero, Bool, List, [], ◌∷◌, ◌++◌, ◌+◌, ◌-◌, ◌≤◌, ◌||◌, ◌&&◌, nat_eq, nat_lt, length, take, drop, replicate, slice_get, slice_set, slice_index_or, position}
use Rattle.std.specs.Prelude.{Option, Some, if◌then◌else◌}
use Rattle.std.specs.List.{IsDistinct, list_all}
use Rattle.rf_base.specs.Name.{same_name}
use Rattle.rf_zones.specs.Couplings.{is_apart, is_heard, is_reached}
use Rattle.rf_zones.specs.ZoneNames.{main_zone}
use Rattle.rf_zones.specs.declared.coupling.Coupling.{Coupling}
use Rattle.rf_zones.specs.declared.coupling.Coupling.TheVariants.{Apart, Coupled}
use Rattle.rf_zones.specs.declared.zone_names.TheConstants.{MAX_ZONES}

-- Zones: their names in order, and for each pair of them how they are coupled. The pairs stand in the order
-- 0 1, 0 2, 1 2, 0 3 and so on, so that those of a zone with the zones before it stand together.
pub record ZonesData : Type 0 where
  pub names : List (List ℕ)
  pub couplings : List Coupling

-- how many pairs n zones make
unfoldable pub pairs : ℕ → ℕ
pairs zero = 0
pairs (suc n) = pairs n + n

-- where a pair stands, in either order
abbrev pub pair_place : ℕ → ℕ → ℕ
pair_place a b = if nat_lt a b then pairs b + a else pairs a + b

-- what zones keep
pub record IsZones (zones : ZonesData) : Type 0 where
  pub first : slice_get zones.names 0 ≡ Some main_zone
  pub distinct : IsDistinct same_name zones.names
  pub few : length zones.names ≤ MAX_ZONES
  pub paired : length zones.couplings ≡ pairs (length zones.names)

-- the zones of a new show: `main` alone
abbrev pub first_zones : ZonesData
first_zones = record { names = main_zone ∷ []; couplings = [] }

-- the number of the zone of this name
abbrev pub zone_of : ZonesData → List ℕ → Option ℕ
zone_of zones name = position (same_name name) zones.names

-- how two zones stand to each other: a zone is coupled with itself
abbrev pub coupling_of : ZonesData → ℕ → ℕ → Coupling
coupling_of zones a b = if nat_eq a b then Coupled else slice_index_or zones.couplings (pair_place a b) Apart

-- whether carriers in two zones hear each other
abbrev pub heard : ZonesData → ℕ → ℕ → Bool
heard zones a b = is_heard (coupling_of zones a b)

-- whether carriers in two zones keep their spacing
abbrev pub reach : ZonesData → ℕ → ℕ → Bool
reach zones a b = is_reached (coupling_of zones a b)

-- how two zones stand to each other does not depend on their order, and each is coupled with itself
pub record IsMutual (zones : ZonesData) : Type 0 where
  pub both : (a b : ℕ) → coupling_of zones a b ≡ coupling_of zones b a
  pub own : (a : ℕ) → coupling_of zones a a ≡ Coupled

-- one zone more, apart from all
abbrev pub with_zone : ZonesData → List ℕ → ZonesData
with_zone zones name = record {
  names = zones.names ++ name ∷ [];
  couplings = zones.couplings ++ replicate (length zones.names) Apart;
}

-- the zones without the last and its pairs
abbrev pub without_last : ZonesData → ZonesData
without_last zones = record {
  names = take (length zones.names - 1) zones.names;
  couplings = take (length zones.couplings - (length zones.names - 1)) zones.couplings;
}

-- whether the last zone is apart from all others
abbrev pub is_last_free : ZonesData → Bool
is_last_free zones = list_all is_apart (drop (length zones.couplings - (length zones.names - 1)) zones.couplings)

-- the zones where two stand so to each other; a zone with itself changes nothing
abbrev pub with_coupling : ZonesData → ℕ → ℕ → Coupling → ZonesData
with_coupling zones a b coupling =
    if nat_eq a b then zones else record zones { couplings = slice_set zones.couplings (pair_place a b) coupling }

-- whether x and y are a and b, in either order
abbrev pub same_pair : ℕ → ℕ → ℕ → ℕ → Bool
same_pair a b x y = nat_eq a x && nat_eq b y || nat_eq a y && nat_eq b x
