-- What is open to a newcomer.
use Rattle.std.specs.Prelude.{◌≡◌, ◌<◌, ◌≤◌, ◌+◌, ◌&&◌, ℕ, Bool, true, false, List, None, not, length, slice_index}
use Rattle.rf_show.specs.Limits.{most_carriers}
use Rattle.rf_spares.specs.Crowds.{IsCrowd}
use Rattle.rf_spares.specs.Exclusions.{bans_newcomer}
use Rattle.rf_spares.specs.Harms.{harms}
use Rattle.rf_spares.specs.Markings.{IsReach, Spans, is_marked}
use Rattle.rf_spares.specs.Newcomers.{channels_at}
use Rattle.rf_spares.specs.Searches.{site}
use Rattle.rf_spares.specs.declared.field.Field.{Field}
use Rattle.rf_spares.specs.declared.field.Sweep.{Sweep}

-- the channels of the newcomers
abbrev pub channels_of : Field → List ℕ
channels_of field = channels_at field.crowd.show.now field.crowd.profile

-- a further newcomer can stand at a frequency: it isn't banned, and breaks nothing beside those that are there
abbrev pub is_open : Field → ℕ → Bool
is_open field f =
    not (bans_newcomer field.crowd.show.now field.crowd.profile field.crowd.zone f) && not (harms (site field.crowd) field.ats.items None f)

abbrev pub is_open_channel : Field → ℕ → Bool
is_open_channel field k = is_open field (slice_index (channels_of field) k)

-- the marks of a field are on what a further newcomer would break
pub record IsField (field : Field) : Type 0 where
  pub known : IsCrowd field.crowd
  pub few : length field.ats.items ≤ most_carriers
  pub spans : (k : ℕ) → k < length (channels_of field) → Spans field.marks (slice_index (channels_of field) k)
  pub marks : (f : ℕ) → f ≤ 10000000 → Spans field.marks f → is_marked field.marks f ≡ harms (site field.crowd) field.ats.items None f

-- no channel from one up to another is open
abbrev pub AreClosed : Field → ℕ → ℕ → Type 0
AreClosed field from to = (k : ℕ) → from ≤ k → k < to → is_open_channel field k ≡ false

-- the first open channel from one on
pub record IsFirstOpen (field : Field) (from k : ℕ) : Type 0 where
  pub after : from ≤ k
  pub within : k < length (channels_of field)
  pub clear : is_open_channel field k ≡ true
  pub before : AreClosed field from k

-- the marks up to a frequency are looked through
pub record IsSwept (field : Field) (sweep : Sweep) (khz : ℕ) : Type 0 where
  pub place : sweep.place + field.marks.low ≡ khz + 1
  pub reached : IsReach field.marks sweep.place sweep.reach
