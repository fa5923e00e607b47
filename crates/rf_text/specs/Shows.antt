-- The reply to `show`.
use Rattle.std.specs.Prelude.{◌≡◌, ◌≤◌, ℕ, Bool, true, false, List, [], ◌∷◌, ◌++◌, ◌+◌, ◌-◌, length, map, filter, drop, string_bytes, slice_index_or, Option, Some, None, codes, decimal, if◌then◌else◌}
use Rattle.std.specs.List.{flat_map, range_with_len}
use Rattle.rf_profiles.specs.Profile.{widths}
use Rattle.rf_profiles.specs.Range.{Span}
use Rattle.rf_profiles.specs.declared.profile.Profile.{Profile}
use Rattle.rf_exclusions.specs.declared.ban.Ban.{Ban}
use Rattle.rf_exclusions.specs.declared.scan_set.ScanSet.{ScanSet}
use Rattle.rf_zones.specs.Zones.{ZonesData, coupling_of}
use Rattle.rf_zones.specs.declared.coupling.Coupling.{Coupling}
use Rattle.rf_zones.specs.declared.coupling.Coupling.TheVariants.{Apart, Coupled, Far}
use Rattle.rf_show.specs.Show.{ShowData}
use Rattle.rf_show.specs.declared.carrier.Carrier.{Carrier}
use Rattle.rf_show.specs.declared.edit.Edit.{Edit}
use Rattle.rf_show.specs.declared.edit.Edit.TheVariants as edit
use Rattle.rf_text.specs.declared.command.Command.{Command}
use Rattle.rf_text.specs.declared.command.Command.TheVariants.{Change, Scan}
use Rattle.rf_text.specs.declared.command_lines.CommandLines.{CommandLines}
use Rattle.rf_text.specs.CommandTexts.{command_text_of}
use Rattle.rf_base.specs.Lines.{line_of}

-- ---- zones

abbrev pub zone_line : List ℕ → Command
zone_line name = Change (edit.AddZone name)

-- a line for each zone but the first
abbrev pub zone_lines : ZonesData → List Command
zone_lines zones = map zone_line (drop 1 zones.names)

abbrev pub zone_name : ZonesData → ℕ → List ℕ
zone_name zones z = slice_index_or zones.names z []

-- the edit that makes two zones stand so to each other
abbrev pub coupling_edit : Coupling → List ℕ → List ℕ → Edit
coupling_edit Apart a b = edit.Uncouple a b
coupling_edit Coupled a b = edit.Couple a b
coupling_edit Far a b = edit.Far a b

abbrev pub same_coupling : Coupling → Coupling → Bool
same_coupling Apart Apart = true
same_coupling Coupled Coupled = true
same_coupling Far Far = true
same_coupling _ _ = false

-- whether two zones stand so to each other
abbrev pub stand : Coupling → ZonesData → ℕ → ℕ → Bool
stand coupling zones a b = same_coupling (coupling_of zones a b) coupling

abbrev pub pair_line : Coupling → ZonesData → ℕ → ℕ → Command
pair_line coupling zones a b = Change (coupling_edit coupling (zone_name zones a) (zone_name zones b))

-- a line for each later zone that stands so to a zone
abbrev pub pairs_with : Coupling → ZonesData → ℕ → List Command
pairs_with coupling zones a =
    map (pair_line coupling zones a) (filter (stand coupling zones a) (range_with_len (a + 1) (length zones.names - (a + 1))))

-- a line for each two different zones that stand so to each other, ordered by the first and then the second
abbrev pub pairs_that : Coupling → ZonesData → List Command
pairs_that coupling zones = flat_map (pairs_with coupling zones) (range_with_len 0 (length zones.names))

-- a line for each two different zones that are coupled
abbrev pub couple_lines : ZonesData → List Command
couple_lines zones = pairs_that Coupled zones

-- a line for each two zones that are coupled far
abbrev pub far_lines : ZonesData → List Command
far_lines zones = pairs_that Far zones

-- ---- profiles

abbrev pub range_line : List ℕ → Span → Command
range_line name r = Change (edit.AddRange name r.from r.to r.step)

-- the line of a profile with its first range
abbrev pub first_range_line : Profile → Span → Command
first_range_line p r = Change (edit.AddProfile p.name (r.from ∷ r.to ∷ r.step ∷ widths p))

-- a profile with its first range, and then its further ranges
abbrev pub ranges_lines : Profile → List Span → List Command
ranges_lines p [] = []
ranges_lines p (r ∷ ranges) = first_range_line p r ∷ map (range_line p.name) ranges

abbrev pub profile_lines : Profile → List Command
profile_lines p = ranges_lines p p.channels

-- ---- bans and scans

abbrev pub ban_line : Ban → Command
ban_line ban = Change (edit.AddBan ban.lo ban.hi ban.zone)

abbrev pub scan_line : ScanSet → Command
scan_line scan = Scan scan.file scan.zone scan.threshold scan.width scan.sep

-- ---- carriers

abbrev pub time_line : List ℕ → ℕ × ℕ → Command
time_line name interval = Change (edit.AddTime name interval.0 interval.1)

-- the line of a carrier's frequency, where it has one
abbrev pub at_lines : List ℕ → Option ℕ → List Command
at_lines name None = []
at_lines name (Some khz) = Change (edit.SetAt name khz) ∷ []

abbrev pub lock_lines : List ℕ → Bool → List Command
lock_lines name locked = if locked then Change (edit.Lock name) ∷ [] else []

-- a carrier, its intervals, its frequency and its lock
abbrev pub carrier_lines : Carrier → List Command
carrier_lines c =
    Change (edit.AddCarrier c.name c.profile c.zone)
    ∷ (map (time_line c.name) c.times ++ (at_lines c.name c.at ++ lock_lines c.name c.locked))

-- ---- the text

-- the lines that make a show
abbrev pub show_lines : ShowData → List Command
show_lines show =
    zone_lines show.zones ++ (couple_lines show.zones ++ (far_lines show.zones ++ (flat_map profile_lines show.profiles
    ++ (map ban_line show.bans ++ (map scan_line show.scans ++ flat_map carrier_lines show.carriers)))))

-- the line of a command, with its line feed
unfoldable pub command_line : Command → List ℕ
command_line command = command_text_of command ++ 10 ∷ []

-- the words of the first line, which is a comment: how many lines come after it
abbrev pub comment_words : ShowData → List (List ℕ)
comment_words show = codes "#" ∷ codes "show" ∷ decimal (length (show_lines show)) ∷ []

-- the reply to `show`
abbrev pub show_text_of : ShowData → List ℕ
show_text_of show = line_of (comment_words show) ++ flat_map command_line (show_lines show)

-- ---- how it is written

-- each line that is counted is there
abbrev pub IsCounted : CommandLines → Type 0
IsCounted lines = lines.count ≤ length (string_bytes lines.text)

-- The lines of these commands are added.
pub record Adds (old new : CommandLines) (commands : List Command) : Type 0 where
  pub text : string_bytes new.text ≡ string_bytes old.text ++ flat_map command_line commands
  pub count : new.count ≡ old.count + length commands
  pub counted : IsCounted new
