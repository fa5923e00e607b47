-- What tells whether carriers are together, as masks. Bit c of a mask stands for carrier c.
use Rattle.std.specs.Prelude.{◌≡◌, ◌<◌, ◌≤◌, ℕ, List, length, map, nat_le, Option, Some, None, slice_get, slice_index_or, if◌then◌else◌}
use Rattle.std.specs.List.{list_any}
use Rattle.std.specs.Option.{option_map_or}
use Rattle.rf_zones.specs.Masks.{has_bit, has_bits}
use Rattle.rf_zones.specs.Slices.{share_minute}
use Rattle.rf_show.specs.Show.{ShowData}
use Rattle.rf_show.specs.declared.carrier.Carrier.{Carrier}
use Rattle.rf_show.specs.Limits.{most_carriers}
use Rattle.rf_show.specs.Query.{meet_at}
use Rattle.rf_rules.specs.declared.company.Company.{Company}

-- the zone of a carrier
abbrev pub zone_at : List Carrier → ℕ → Option (List ℕ)
zone_at carriers c = option_map_or (λ d. Some d.zone) (slice_get carriers c) None

-- the carriers of a mask are those that may be together with a carrier in a set of so many
abbrev pub Meets : ShowData → ℕ → ℕ → ℕ → Type 0
Meets show size a mask = (b : ℕ) → b < length show.carriers → has_bit mask b ≡ meet_at size show.zones show.carriers a b

-- the masks by the size of a set: two carriers, or more
abbrev pub masks_of : ℕ → Company → List ℕ
masks_of size company = if nat_le size 2 then company.reach else company.heard

-- the masks are those of the show
pub record IsCompany (company : Company) : Type 0 where
  pub few : length company.show.now.carriers ≤ most_carriers
  pub meets : (size a : ℕ) → a < length company.show.now.carriers → Meets company.show.now size a (slice_index_or (masks_of size company) a 0)
  pub common : (set : List ℕ) → list_any (has_bits set) company.slices ≡ share_minute (map (λ c. c.times) company.show.now.carriers) set
