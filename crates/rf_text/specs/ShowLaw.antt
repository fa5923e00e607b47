-- What the lines of a show's text make.
use Rattle.std.specs.Prelude.{◌≡◌, ℕ, true, List, [], ◌∷◌, map, Option, Some, None, Ok, option_and_then, IfSome, IsTrue}
use Rattle.std.specs.List.{AllByRecursion}
use Rattle.std.specs.Result.{result_ok}
use Rattle.rf_base.specs.FileName.{IsFileName}
use Rattle.rf_base.specs.Khz.{IsKhz}
use Rattle.rf_base.specs.Name.{IsName}
use Rattle.rf_base.specs.declared.decimal.Decimal.{Decimal}
use Rattle.rf_exclusions.specs.declared.ban.Ban.{Ban}
use Rattle.rf_exclusions.specs.declared.scan_set.ScanSet.{ScanSet}
use Rattle.rf_exclusions.specs.declared.scan_set.Sep.{Sep}
use Rattle.rf_profiles.specs.Channels.{IsChannels}
use Rattle.rf_profiles.specs.declared.profile.Profile.{Profile}
use Rattle.rf_zones.specs.Times.{IsTimes}
use Rattle.rf_zones.specs.Zones.{IsZones}
use Rattle.rf_show.specs.declared.carrier.Carrier.{Carrier}
use Rattle.rf_show.specs.declared.edit.Edit.{Edit}
use Rattle.rf_show.specs.declared.edit.Edit.TheVariants as edit
use Rattle.rf_show.specs.After.{after, is_edit}
use Rattle.rf_show.specs.Raised.{is_textual}
use Rattle.rf_show.specs.Show.{ShowData, first_show, is_show}
use Rattle.rf_text.specs.declared.command.Command.{Command}
use Rattle.rf_text.specs.declared.command.Command.TheVariants.{Change, Scan}
use Rattle.rf_text.specs.Commands.{command_in}
use Rattle.rf_text.specs.CommandTexts.{command_text_of}
use Rattle.rf_text.specs.Shows.{show_lines}

-- the hot points of a file, by its separator and a threshold
abbrev pub HotPointsOf : Type 0
HotPointsOf = List ℕ → Sep → Decimal → List ℕ

-- the edit that a command asks for over files with these hot points
abbrev pub edit_with : HotPointsOf → Command → Option Edit
edit_with hot (Change edit) = Some edit
edit_with hot (Scan file zone threshold width sep) = Some (edit.AddScan file sep zone threshold width (hot file sep threshold))
edit_with hot _ = None

-- the show after a command; None where it is no edit, or is refused
abbrev pub after_command : HotPointsOf → ShowData → Command → Option ShowData
after_command hot show command = option_and_then (λ edit. result_ok (after show edit)) (edit_with hot command)

-- the show after lines, where each is an edit and accepted
abbrev pub after_lines : HotPointsOf → ShowData → List (List ℕ) → Option ShowData
after_lines hot show [] = Some show
after_lines hot show (line ∷ lines) =
    option_and_then (λ next. after_lines hot next lines) (option_and_then (after_command hot show) (command_in line))

-- what the parts of a show keep
abbrev pub IsProfile : Profile → Type 0
IsProfile p = IsName p.name × IsChannels p.channels

pub record IsCarrier (c : Carrier) : Type 0 where
  pub name : IsName c.name
  pub profile : IsName c.profile
  pub zone : IsName c.zone
  pub times : IsTimes c.times
  pub at : IfSome c.at IsKhz

pub record IsBan (ban : Ban) : Type 0 where
  pub low : IsKhz ban.lo
  pub high : IsKhz ban.hi
  pub zone : IfSome ban.zone IsName

pub record IsScan (scan : ScanSet) : Type 0 where
  pub file : IsFileName scan.file
  pub zone : IsName scan.zone

-- What a show keeps, with what its parts keep.
pub record IsWhole (show : ShowData) : Type 0 where
  pub kept : is_show show ≡ true
  pub zones : IsZones show.zones
  pub zone_names : AllByRecursion IsName show.zones.names
  pub profiles : AllByRecursion IsProfile show.profiles
  pub bans : AllByRecursion IsBan show.bans
  pub scans : AllByRecursion IsScan show.scans
  pub carriers : AllByRecursion IsCarrier show.carriers

-- a scan has the hot points of its file
abbrev pub HasPoints : HotPointsOf → ScanSet → Type 0
HasPoints hot scan = hot scan.file scan.sep scan.threshold ≡ scan.hot

-- A show over files with these hot points. Its widths are those of a text: a show that is raised may not be made by a text.
pub record IsShowOver (hot : HotPointsOf) (show : ShowData) : Type 0 where
  pub whole : IsWhole show
  pub textual : is_textual show ≡ true
  pub points : AllByRecursion (HasPoints hot) show.scans

-- The lines of a show's text, applied to a first show over the same files, are all accepted and give the show.
abbrev pub LinesMakeShow : Type 0
LinesMakeShow = (hot : HotPointsOf) (show : ShowData) → IsShowOver hot show → after_lines hot first_show (map command_text_of (show_lines show)) ≡ Some show

-- A first show has only widths that a text may give, and an accepted edit of a line or a file leaves such a show so.
pub record EditsStayTextual : Type 0 where
  pub first : is_textual first_show ≡ true
  pub next : (show next : ShowData) (change : Edit) → is_textual show ≡ true → IsTrue (is_edit change) → after show change ≡ Ok next → is_textual next ≡ true
