-- Which carriers may be together.
use Rattle.std.specs.Prelude.{◌≡◌, ◌<◌, ℕ, true, List, length}
use Rattle.rf_zones.specs.Zones.{ZonesData}
use Rattle.rf_show.specs.declared.carrier.Carrier.{Carrier}
use Rattle.rf_show.specs.Query.{meet_at}

-- in a set of any size, two carriers may be together in either order, and each with itself
pub record IsMutual (zones : ZonesData) (carriers : List Carrier) : Type 0 where
  pub both : (size a b : ℕ) → meet_at size zones carriers a b ≡ meet_at size zones carriers b a
  pub own : (size c : ℕ) → c < length carriers → meet_at size zones carriers c c ≡ true

abbrev pub MeetingIsMutual : Type 0
MeetingIsMutual = (zones : ZonesData) (carriers : List Carrier) → IsMutual zones carriers
