use Rattle.std.specs.Prelude.{ℕ, List, [], ◌∷◌, ◌++◌, ◌-◌, ◌≤◌, ◌<◌, nat_le, nat_lt, length, replicate, Option, Some, None, Result, Ok, Err, if◌then◌else◌}
use Rattle.std.specs.List.{flat_map}
use Rattle.rf_profiles.specs.Range.{Span, span, frequencies, IsRange}
use Rattle.rf_profiles.specs.declared.channels.ChannelsFault.{ChannelsFault}
use Rattle.rf_profiles.specs.declared.channels.ChannelsFault.TheVariants.{NotRising, Many, Ninth}

-- how many ranges a profile may have
abbrev pub most_ranges : ℕ
most_ranges = 8

-- how many channels a profile may have
abbrev pub most_channels : ℕ
most_channels = 65536

-- The channels of a profile with these ranges: their frequencies, one range after the other.
abbrev pub channels : List Span → List ℕ
channels ranges = flat_map frequencies ranges

-- each range is valid and starts above the end of the one before, which is `last`
abbrev pub RisesFrom : ℕ → List Span → Type 0
RisesFrom last [] = Unit {0}
RisesFrom last (r ∷ rs) = IsRange r × (last < r.from) × RisesFrom r.to rs

-- the end of the last range, or `last` where there is none
abbrev pub last_to : ℕ → List Span → ℕ
last_to last [] = last
last_to last (r ∷ rs) = last_to r.to rs

-- what the ranges of a profile keep
pub record IsChannels (rs : List Span) : Type 0 where
  pub some : 1 ≤ length rs
  pub few : length rs ≤ most_ranges
  pub rising : RisesFrom 0 rs
  pub many : length (channels rs) ≤ most_channels

-- one range more, or the first reason against it
abbrev pub with_range : List Span → Span → Result (List Span) ChannelsFault
with_range rs r =
    if nat_le r.from (last_to 0 rs) then Err NotRising
    else if nat_lt most_channels (length (channels (rs ++ r ∷ []))) then Err Many
    else if nat_le most_ranges (length rs) then Err Ninth
    else Ok (rs ++ r ∷ [])

-- the ranges, and what stands in the places where none is
abbrev pub filled : List Span → List Span
filled rs = rs ++ replicate (most_ranges - length rs) (span 1 1 1)

-- the channels of one range, where they are few enough
abbrev pub channels_of : Span → Option (List Span)
channels_of r = if nat_le (length (frequencies r)) most_channels then Some (r ∷ []) else None
