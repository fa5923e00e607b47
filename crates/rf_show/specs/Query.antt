-- Questions about a show. Carriers are places in its list.
use Rattle.std.specs.Prelude.{ℕ, Bool, true, false, List, Option, Some, None, not, ◌&&◌, ◌||◌, ◌-◌, ◌==◌, find, length, map, max, slice_get, slice_index}
use Rattle.std.specs.List.{list_all, list_any}
use Rattle.std.specs.Option.{option_and_then, option_map_or}
use Rattle.rf_terms.specs.declared.kind.Kind.{Kind}
use Rattle.rf_terms.specs.declared.kind.Kind.TheVariants.{Spacing}
use Rattle.rf_terms.specs.Kinds.{roles_of}
use Rattle.rf_base.specs.Name.{same_name}
use Rattle.rf_exclusions.specs.Touched.{is_touched_by_ban, is_touched_by_scan}
use Rattle.rf_exclusions.specs.declared.ban.Ban.{Ban}
use Rattle.rf_exclusions.specs.declared.scan_set.ScanSet.{ScanSet}
use Rattle.rf_profiles.specs.Channels.{channels}
use Rattle.rf_profiles.specs.Profile as profile
use Rattle.rf_profiles.specs.declared.profile.Profile.{Profile}
use Rattle.rf_zones.specs.Couplings.{joins}
use Rattle.rf_zones.specs.Zones.{ZonesData, coupling_of}
use Rattle.rf_zones.specs.Slices.{share_minute}
use Rattle.rf_show.specs.Show.{ShowData, is_profile, zone_number}
use Rattle.rf_show.specs.Reasons.{same_at}
use Rattle.rf_show.specs.declared.carrier.Carrier.{Carrier}

-- the frequency at which a carrier stands
abbrev pub at_of : ShowData → ℕ → Option ℕ
at_of show c = option_and_then (λ carrier. carrier.at) (slice_get show.carriers c)

abbrev pub profile_of : ShowData → ℕ → Option Profile
profile_of show c =
    option_and_then (λ carrier. find (is_profile carrier.profile) show.profiles) (slice_get show.carriers c)

-- the frequency of a carrier's channel
abbrev pub channel_of : ShowData → ℕ → ℕ → Option ℕ
channel_of show c k = option_and_then (λ p. slice_get (channels p.channels) k) (profile_of show c)

-- a frequency is a channel of a carrier
abbrev pub is_channel : ShowData → ℕ → ℕ → Bool
is_channel show c f = option_map_or (λ p. list_any (λ g. f == g) (channels p.channels)) (profile_of show c) false

-- ---- exclusions

-- the half width of a carrier's profile
abbrev pub half_of : ShowData → ℕ → ℕ
half_of show c = option_map_or (λ p. p.half) (profile_of show c) 0

-- a ban of this zone, or of all zones, holds in a zone
abbrev pub holds_in : List ℕ → Option (List ℕ) → Bool
holds_in zone None = true
holds_in zone (Some banned) = same_name banned zone

-- a ban touches a frequency in a zone
abbrev pub bans_touch : List Ban → List ℕ → ℕ → ℕ → Bool
bans_touch bans zone half f = list_any (λ ban. is_touched_by_ban ban half f && holds_in zone ban.zone) bans

-- a scan of a zone touches a frequency
abbrev pub scans_touch : List ScanSet → List ℕ → ℕ → ℕ → Bool
scans_touch scans zone half f = list_any (λ scan. same_name scan.zone zone && is_touched_by_scan scan half f) scans

-- a ban or a scan touches a frequency in the zone of a carrier, under the half width of its profile
unfoldable pub is_banned : ShowData → ℕ → ℕ → Bool
is_banned show c f =
    option_map_or (λ carrier. bans_touch show.bans carrier.zone (half_of show c) f || scans_touch show.scans carrier.zone (half_of show c) f)
    (slice_get show.carriers c) false

-- ---- allowed channels

-- a carrier that is locked stays where it stands
abbrev pub may_stand : Carrier → ℕ → Bool
may_stand carrier f = not carrier.locked || same_at carrier.at (Some f)

abbrev pub may_stand_at : ShowData → ℕ → ℕ → Bool
may_stand_at show c f = option_map_or (λ carrier. may_stand carrier f) (slice_get show.carriers c) false

-- a carrier may stand at a frequency of its channels
abbrev pub may_take : ShowData → ℕ → ℕ → Bool
may_take show c f = not (is_banned show c f) && may_stand_at show c f

-- a carrier may stand at its channel k
abbrev pub is_allowed : ShowData → ℕ → ℕ → Bool
is_allowed show c k = option_map_or (λ f. may_take show c f) (channel_of show c k) false

-- ---- carriers together

-- two carriers may be together in a set of so many, by their zones
abbrev pub meet : ℕ → ZonesData → Carrier → Carrier → Bool
meet size zones a b = joins size (coupling_of zones (zone_number zones a.zone) (zone_number zones b.zone))

abbrev pub meet_at : ℕ → ZonesData → List Carrier → ℕ → ℕ → Bool
meet_at size zones carriers a b =
    option_map_or (λ c. option_map_or (λ d. meet size zones c d) (slice_get carriers b) false) (slice_get carriers a) false

-- each two of these carriers may be together in a set of so many
abbrev pub all_meet : ℕ → ZonesData → List Carrier → List ℕ → Bool
all_meet size zones carriers set = list_all (λ a. list_all (λ b. meet_at size zones carriers a b) set) set

-- these carriers can stand in a set of so many that is together: some minute of the week has all of them on, and each two of
-- them may be together in it
unfoldable pub are_joined : ShowData → ℕ → List ℕ → Bool
are_joined show size set =
    all_meet size show.zones show.carriers set && share_minute (map (λ c. c.times) show.carriers) set

-- a set of carriers is together
abbrev pub is_together : ShowData → List ℕ → Bool
is_together show set = are_joined show (length set) set

-- what a carrier's profile asks of the form of a kind
abbrev pub asked : ShowData → Kind → ℕ → ℕ
asked show kind c = option_map_or (λ p. profile.margin_of p kind) (profile_of show c) 0

-- the margin of a kind between these carriers: what the victim asks, and for spacing the larger of what the two ask
abbrev pub margin_of : ShowData → Kind → List ℕ → ℕ
margin_of show Spacing roles = max (asked show Spacing (slice_index roles 0)) (asked show Spacing (slice_index roles 1))
margin_of show kind roles = asked show kind (slice_index roles (roles_of kind - 1))
