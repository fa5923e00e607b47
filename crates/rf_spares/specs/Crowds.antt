-- Which carriers can be together with each other and with a newcomer, as lists and as masks: the show's carriers, and behind
-- them newcomers, in as many places as a show has. Bit c of a mask stands for carrier c.
use Rattle.std.specs.Prelude.{◌≡◌, ◌<◌, ◌≤◌, ◌-◌, ◌++◌, ℕ, Bool, true, List, [], length, map, nat_le, replicate, slice_index_or, if◌then◌else◌}
use Rattle.std.specs.List.{list_any}
use Rattle.std.specs.Option.{option_map_or}
use Rattle.rf_terms.specs.declared.kind.Kind.{Kind}
use Rattle.rf_profiles.specs.Profile as profiles
use Rattle.rf_zones.specs.Couplings.{joins}
use Rattle.rf_zones.specs.Masks.{has_bit, has_bits}
use Rattle.rf_zones.specs.Slices.{share_minute}
use Rattle.rf_zones.specs.Zones.{ZonesData, coupling_of}
use Rattle.std.specs.Prelude.{slice_get}
use Rattle.rf_show.specs.Limits.{most_carriers}
use Rattle.rf_show.specs.Query.{asked}
use Rattle.rf_show.specs.Show.{ShowData, is_show, zone_number}
use Rattle.rf_rules.specs.Tuples.{upto}
use Rattle.rf_spares.specs.Newcomers.{zone_name}
use Rattle.rf_spares.specs.declared.crowd.Crowd.{Crowd}

-- a list for the show's carriers, and what holds for a newcomer in the places behind them
abbrev pub with_newcomers : {X : Type 0} → List X → X → List X
with_newcomers xs x = xs ++ replicate (most_carriers - length xs) x

-- the number of a newcomer's zone
abbrev pub own_number : ShowData → ℕ → ℕ
own_number show zone = zone_number show.zones (zone_name show zone)

-- the number of each carrier's zone
abbrev pub zone_numbers : ShowData → ℕ → List ℕ
zone_numbers show zone = with_newcomers (map (λ c. zone_number show.zones c.zone) show.carriers) (own_number show zone)

-- when each carrier is on
abbrev pub times_of : ShowData → List (List (ℕ × ℕ))
times_of show = with_newcomers (map (λ c. c.times) show.carriers) []

-- what a profile asks of the form of a kind
abbrev pub asked_at : ShowData → ℕ → Kind → ℕ
asked_at show profile kind = option_map_or (λ p. profiles.margin_of p kind) (slice_get show.profiles profile) 0

-- what each carrier's profile asks of the form of a kind
abbrev pub needs_of : ShowData → ℕ → Kind → List ℕ
needs_of show profile kind = with_newcomers (map (asked show kind) (upto (length show.carriers))) (asked_at show profile kind)

-- carriers in two zones may be together in a set of so many
abbrev pub meets : ZonesData → ℕ → ℕ → ℕ → Bool
meets zones size a b = joins size (coupling_of zones a b)

-- these are numbers of zones, in as many places as a show has
abbrev pub AreZones : ShowData → List ℕ → Type 0
AreZones show ns = (c : ℕ) → c < most_carriers → slice_index_or ns c 0 < length show.zones.names

-- the carriers of a mask, of which these are the zones, are those that may be together with a zone in a set of so many
abbrev pub HearsAll : ShowData → List ℕ → ℕ → ℕ → ℕ → Type 0
HearsAll show ns size a mask = (b : ℕ) → b < most_carriers → has_bit mask b ≡ meets show.zones size a (slice_index_or ns b 0)

abbrev pub Hears : ShowData → ℕ → ℕ → ℕ → ℕ → Type 0
Hears show zone size a mask = HearsAll show (zone_numbers show zone) size a mask

-- the masks by the size of a set: two carriers, or more
abbrev pub masks_of : ℕ → Crowd → List ℕ
masks_of size crowd = if nat_le size 2 then crowd.reach else crowd.heard

abbrev pub own_of : ℕ → Crowd → ℕ
own_of size crowd = if nat_le size 2 then crowd.own_reach else crowd.own_heard

-- the masks are those of the show
pub record IsCrowd (crowd : Crowd) : Type 0 where
  pub profile : crowd.profile < length crowd.show.now.profiles
  pub zone : crowd.zone < length crowd.show.now.zones.names
  pub few : length crowd.show.now.carriers ≤ most_carriers
  pub shown : is_show crowd.show.now ≡ true
  pub hears : (size a : ℕ) → a < most_carriers
      → Hears crowd.show.now crowd.zone size (slice_index_or (zone_numbers crowd.show.now crowd.zone) a 0) (slice_index_or (masks_of size crowd) a 0)
  pub own : (size : ℕ) → Hears crowd.show.now crowd.zone size (own_number crowd.show.now crowd.zone) (own_of size crowd)
  pub common : (set : List ℕ) → list_any (has_bits set) crowd.slices ≡ share_minute (times_of crowd.show.now) set
