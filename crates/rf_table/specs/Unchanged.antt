-- What tells that two shows agree on carriers: what is kept of them is the same.
use Rattle.std.specs.Prelude.{◌≡◌, ◌<◌, ℕ, false, Option, Some, None, length, slice_get}
use Rattle.rf_terms.specs.declared.kind.Kind.{Kind}
use Rattle.rf_zones.specs.Masks.{has_bit}
use Rattle.rf_zones.specs.Zones.{ZonesData, coupling_of}
use Rattle.rf_show.specs.declared.carrier.Carrier.{Carrier}
use Rattle.rf_show.specs.Show.{ShowData}
use Rattle.rf_show.specs.Query.{asked}

-- two carriers have the same frequency, zone and times
pub record IsAlike (a b : Carrier) : Type 0 where
  pub at : a.at ≡ b.at
  pub zone : a.zone ≡ b.zone
  pub times : a.times ≡ b.times

abbrev pub AreAlike : Option Carrier → Option Carrier → Type 0
AreAlike None None = Unit {0}
AreAlike (Some a) (Some b) = IsAlike a b
AreAlike _ _ = ⊥

-- a carrier stays as it was, and asks the same; or neither show has it
pub record SameAt (old new : ShowData) (c : ℕ) : Type 0 where
  pub alike : AreAlike (slice_get old.carriers c) (slice_get new.carriers c)
  pub asked : (kind : Kind) → asked old kind c ≡ asked new kind c

-- a zone has the same name, and stands to all others as before
pub record SameZone (old new : ZonesData) (z : ℕ) : Type 0 where
  pub name : slice_get old.names z ≡ slice_get new.names z
  pub couplings : (y : ℕ) → y < length old.names → coupling_of old z y ≡ coupling_of new z y

pub record SameZones (old new : ZonesData) : Type 0 where
  pub some : 0 < length old.names
  pub count : length old.names ≡ length new.names
  pub each : (z : ℕ) → z < length old.names → SameZone old new z

-- two shows have the same zones, and each carrier that is not of a mask is alike in both and asks the same, or is in neither
pub record Unchanged (mask : ℕ) (old new : ShowData) : Type 0 where
  pub zones : SameZones old.zones new.zones
  pub same : (c : ℕ) → has_bit mask c ≡ false → SameAt old new c
