use Rattle.std.specs.Prelude.{ℕ, Bool, true, false, List, [], ◌∷◌, ◌&&◌, not, nat_eq, nat_lt, ◌+◌, nat_le, length, Option, Some, None, Result, Ok, Err, is_some, is_none, if◌then◌else◌}
use Rattle.std.specs.Option.{option_map_or}
use Rattle.std.specs.List.{list_any, zip}
use Rattle.rf_base.specs.Khz.{is_khz}
use Rattle.rf_base.specs.declared.decimal.Decimal.{Decimal}
use Rattle.rf_exclusions.specs.declared.ban.Ban.{Ban}
use Rattle.rf_exclusions.specs.declared.scan_set.ScanSet.{ScanSet}
use Rattle.rf_profiles.specs.Channels.{with_range}
use Rattle.rf_profiles.specs.Profile.{profile_of}
use Rattle.rf_profiles.specs.Range.{Span}
use Rattle.rf_profiles.specs.declared.channels.ChannelsFault.{ChannelsFault}
use Rattle.rf_profiles.specs.declared.channels.ChannelsFault.TheVariants.{NotRising, Many, Ninth}
use Rattle.rf_profiles.specs.declared.profile.Profile.{Profile}
use Rattle.rf_zones.specs.Times.{is_interval}
use Rattle.rf_zones.specs.Zones.{ZonesData}
use Rattle.rf_show.specs.declared.carrier.Carrier.{Carrier}
use Rattle.rf_show.specs.declared.refusal.Refusal.{Refusal}
use Rattle.rf_show.specs.declared.refusal.Refusal.TheVariants.{Unknown, Taken, Number, InUse, NoFrequency, Locked, Full}
use Rattle.rf_show.specs.Limits.{most_bans, most_carriers, most_intervals, most_profiles, most_scans, most_zones, widest_scan}
use Rattle.rf_show.specs.Show.{carrier_named, has_carrier, profile_named, has_profile, is_used, has_zone, has_zone_or_all, is_threshold}

-- the first of these reasons that holds
abbrev pub first_reason : List (Bool × Refusal) → Option Refusal
first_reason [] = None
first_reason (reason ∷ reasons) = if reason.0 then Some reason.1 else first_reason reasons

-- what a test answers, by the reason against an edit
abbrev pub ok_unless : Option Refusal → Result (Unit {0}) Refusal
ok_unless None = Ok tt
ok_unless (Some reason) = Err reason

-- what a test answers where these are the reasons, each with whether it holds
abbrev pub ok_or_first : List (Bool × Refusal) → Result (Unit {0}) Refusal
ok_or_first reasons = ok_unless (first_reason reasons)

-- ---- profiles

abbrev pub new_profile_reasons : List Profile → List ℕ → List ℕ → List (Bool × Refusal)
new_profile_reasons profiles name numbers =
    (has_profile profiles name, Taken)
    ∷ (is_none (profile_of name numbers), Number)
    ∷ (nat_le most_profiles (length profiles), Full) ∷ []

abbrev pub new_profiles_reasons : List Profile → List Profile → List (Bool × Refusal)
new_profiles_reasons profiles list =
    (list_any (λ p. has_profile profiles p.name) list, Taken)
    ∷ (nat_lt most_profiles (length profiles + length list), Full) ∷ []

-- the reason against what a profile's channels would become
abbrev pub fault_reason : Result (List Span) ChannelsFault → Option Refusal
fault_reason (Ok ranges) = None
fault_reason (Err NotRising) = Some Number
fault_reason (Err Many) = Some Number
fault_reason (Err Ninth) = Some Full

-- the reason against a range more of a profile
abbrev pub range_reason : Profile → Option Span → Option Refusal
range_reason p None = Some Number
range_reason p (Some range) = fault_reason (with_range p.channels range)

-- the same of the profile of a name, where there is one
abbrev pub named_range_reason : Option Profile → Option Span → Option Refusal
named_range_reason None range = None
named_range_reason (Some p) range = range_reason p range

abbrev pub is_number : Option Refusal → Bool
is_number (Some Number) = true
is_number _ = false

abbrev pub range_reasons : List Profile → List Carrier → List ℕ → Option Span → List (Bool × Refusal)
range_reasons profiles carriers name range =
    let reason = named_range_reason (profile_named profiles name) range in
    (not (has_profile profiles name), Unknown)
    ∷ (is_number reason, Number)
    ∷ (is_used carriers name, InUse)
    ∷ (is_some reason, Full) ∷ []

abbrev pub drop_profile_reasons : List Profile → List Carrier → List ℕ → List (Bool × Refusal)
drop_profile_reasons profiles carriers name =
    (not (has_profile profiles name), Unknown) ∷ (is_used carriers name, InUse) ∷ []

-- ---- zones

abbrev pub new_zone_reasons : ZonesData → List ℕ → List (Bool × Refusal)
new_zone_reasons zones name =
    (has_zone zones name, Taken) ∷ (nat_le most_zones (length zones.names), Full) ∷ []

abbrev pub coupling_reasons : ZonesData → List ℕ → List ℕ → List (Bool × Refusal)
coupling_reasons zones a b =
    (not (has_zone zones a), Unknown) ∷ (not (has_zone zones b), Unknown) ∷ []

-- ---- carriers

-- whether the carrier of this name is locked
abbrev pub is_locked : List Carrier → List ℕ → Bool
is_locked carriers name = option_map_or (λ c. c.locked) (carrier_named carriers name) false

-- whether the carrier of this name has a frequency
abbrev pub has_frequency : List Carrier → List ℕ → Bool
has_frequency carriers name = option_map_or (λ c. is_some c.at) (carrier_named carriers name) false

-- whether the carrier of this name has all the intervals that it may have
abbrev pub has_full_times : List Carrier → List ℕ → Bool
has_full_times carriers name = option_map_or (λ c. nat_le most_intervals (length c.times)) (carrier_named carriers name) false

abbrev pub new_carrier_reasons : List Profile → ZonesData → List Carrier → List ℕ → List ℕ → List ℕ → List (Bool × Refusal)
new_carrier_reasons profiles zones carriers name profile zone =
    (not (has_profile profiles profile), Unknown)
    ∷ (not (has_zone zones zone), Unknown)
    ∷ (has_carrier carriers name, Taken)
    ∷ (nat_le most_carriers (length carriers), Full) ∷ []

-- of an edit that only needs the carrier
abbrev pub named_reasons : List Carrier → List ℕ → List (Bool × Refusal)
named_reasons carriers name = (not (has_carrier carriers name), Unknown) ∷ []

-- of an edit that a lock forbids
abbrev pub unlocked_reasons : List Carrier → List ℕ → List (Bool × Refusal)
unlocked_reasons carriers name =
    (not (has_carrier carriers name), Unknown) ∷ (is_locked carriers name, Locked) ∷ []

abbrev pub set_reasons : List Carrier → List ℕ → ℕ → List (Bool × Refusal)
set_reasons carriers name khz =
    (not (has_carrier carriers name), Unknown)
    ∷ (not (is_khz khz), Number)
    ∷ (is_locked carriers name, Locked) ∷ []

abbrev pub lock_reasons : List Carrier → List ℕ → List (Bool × Refusal)
lock_reasons carriers name =
    (not (has_carrier carriers name), Unknown) ∷ (not (has_frequency carriers name), NoFrequency) ∷ []

abbrev pub time_reasons : List Carrier → List ℕ → ℕ → ℕ → List (Bool × Refusal)
time_reasons carriers name from to =
    (not (has_carrier carriers name), Unknown)
    ∷ (not (is_interval (from, to)), Number)
    ∷ (has_full_times carriers name, Full) ∷ []

abbrev pub same_at : Option ℕ → Option ℕ → Bool
same_at None None = true
same_at None (Some f) = false
same_at (Some f) None = false
same_at (Some f) (Some g) = nat_eq f g

-- whether these frequencies move a locked carrier
abbrev pub moves_locked : List Carrier → List (Option ℕ) → Bool
moves_locked carriers ats = list_any (λ p. p.0.locked && not (same_at p.0.at p.1)) (zip carriers ats)

abbrev pub place_reasons : List Carrier → List (Option ℕ) → List (Bool × Refusal)
place_reasons carriers ats =
    (not (nat_eq (length ats) (length carriers)), Number) ∷ (moves_locked carriers ats, Locked) ∷ []

-- ---- bans and scans

abbrev pub new_ban_reasons : ZonesData → List Ban → ℕ → ℕ → Option (List ℕ) → List (Bool × Refusal)
new_ban_reasons zones bans lo hi zone =
    (not (has_zone_or_all zones zone), Unknown)
    ∷ (not (is_khz lo && is_khz hi && nat_le lo hi), Number)
    ∷ (nat_le most_bans (length bans), Full) ∷ []

abbrev pub new_scan_reasons : ZonesData → List ScanSet → List ℕ → Decimal → ℕ → List (Bool × Refusal)
new_scan_reasons zones scans zone threshold width =
    (not (has_zone zones zone), Unknown)
    ∷ (not (is_threshold threshold && nat_le width widest_scan), Number)
    ∷ (nat_le most_scans (length scans), Full) ∷ []

-- of an edit that takes away what has this number, from 1, among so many
abbrev pub numbered_reasons : ℕ → ℕ → List (Bool × Refusal)
numbered_reasons count number = (not (nat_le 1 number && nat_le number count), Number) ∷ []
