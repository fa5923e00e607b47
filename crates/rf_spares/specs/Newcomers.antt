-- A show with further carriers.
use Rattle.std.specs.Prelude.{ℕ, List, [], ◌∷◌, ◌++◌, Option, Some, false, map, slice_get}
use Rattle.std.specs.Option.{option_map_or, unwrap_or}
use Rattle.rf_profiles.specs.Channels.{channels}
use Rattle.rf_show.specs.Show.{ShowData}
use Rattle.rf_show.specs.declared.carrier.Carrier.{Carrier}

-- the name of a profile, and of a zone, by its place
abbrev pub profile_name : ShowData → ℕ → List ℕ
profile_name show profile = option_map_or (λ p. p.name) (slice_get show.profiles profile) []

abbrev pub zone_name : ShowData → ℕ → List ℕ
zone_name show zone = unwrap_or (slice_get show.zones.names zone) []

-- the frequencies of a profile's channels
abbrev pub channels_at : ShowData → ℕ → List ℕ
channels_at show profile = option_map_or (λ p. channels p.channels) (slice_get show.profiles profile) []

-- a further carrier of this profile and zone, always on and not locked. What it is called doesn't matter.
abbrev pub newcomer : ShowData → ℕ → ℕ → Option ℕ → Carrier
newcomer show profile zone at = record {
  name = [];
  profile = profile_name show profile;
  zone = zone_name show zone;
  times = [];
  at = at;
  locked = false;
}

-- the show with a newcomer at each of these frequencies, behind its carriers
abbrev pub extended_by : ShowData → ℕ → ℕ → List ℕ → ShowData
extended_by show profile zone khzs =
    record show { carriers = show.carriers ++ map (λ f. newcomer show profile zone (Some f)) khzs }

-- the show with one newcomer
abbrev pub extended : ShowData → ℕ → ℕ → ℕ → ShowData
extended show profile zone f = extended_by show profile zone (f ∷ [])
