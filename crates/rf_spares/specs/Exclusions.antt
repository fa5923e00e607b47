-- What is banned for a newcomer.
use Rattle.std.specs.Prelude.{ℕ, Bool, ◌||◌, slice_get}
use Rattle.std.specs.Option.{option_map_or}
use Rattle.rf_show.specs.Query.{bans_touch, scans_touch}
use Rattle.rf_show.specs.Show.{ShowData}
use Rattle.rf_spares.specs.Newcomers.{zone_name}

-- the half width of a profile
abbrev pub half_at : ShowData → ℕ → ℕ
half_at show profile = option_map_or (λ p. p.half) (slice_get show.profiles profile) 0

-- a ban or a scan touches a frequency in a zone, under the half width of a profile
abbrev pub bans_newcomer : ShowData → ℕ → ℕ → ℕ → Bool
bans_newcomer show profile zone f =
    bans_touch show.bans (zone_name show zone) (half_at show profile) f || scans_touch show.scans (zone_name show zone) (half_at show profile) f
