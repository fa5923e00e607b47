-- What lines read from the files that they name.
use Rattle.std.specs.Prelude.{◌≤◌, ℕ, List, [], ◌++◌, codes, decimal, length, Result, Ok, Err}
use Rattle.rf_base.specs.declared.decimal.Decimal.{Decimal}
use Rattle.rf_exclusions.specs.declared.scan_set.Sep.{Sep}
use Rattle.rf_profiles.specs.File.{profiles_of}
use Rattle.rf_profiles.specs.declared.fault.Field.{Field}
use Rattle.rf_profiles.specs.declared.fault.Field.TheVariants as field
use Rattle.rf_profiles.specs.declared.fault.ProfilesFault.{ProfilesFault}
use Rattle.rf_profiles.specs.declared.fault.ProfilesFault.TheVariants as profiles
use Rattle.rf_profiles.specs.declared.profile.Profile.{Profile}
use Rattle.rf_scan.specs.Hot.{hot_of}
use Rattle.rf_scan.specs.Scan.{scan_of}
use Rattle.rf_scan.specs.declared.fault.ScanFault.{ScanFault}
use Rattle.rf_scan.specs.declared.fault.ScanFault.TheVariants as scan
use Rattle.rf_scan.specs.declared.point.Point.{Point}
use Rattle.rf_session.specs.declared.file_fault.FileFault.{FileFault}
use Rattle.rf_session.specs.declared.file_fault.FileFault.TheVariants.{Shelf, Large, Toml, Profile as BadProfile, Points, Record, Many, Memory}
use Rattle.rf_session.specs.declared.reply.Code.TheVariants.{ShelfFault}
use Rattle.rf_session.specs.declared.reply.Reply.{Reply}
use Rattle.rf_session.specs.declared.reply.Reply.TheVariants.{Error, BadFile}
use Rattle.rf_session.specs.Fetches.{Got, found, too_large, fault, file_limit}

-- no more bytes came than these
abbrev pub IsWithin : ℕ → Got → Type 0
IsWithin limit (found bytes) = length bytes ≤ limit
IsWithin limit too_large = Unit {0}
IsWithin limit fault = Unit {0}

-- no more bytes came than a file that a line names may have
abbrev pub IsSmall : Got → Type 0
IsSmall = IsWithin file_limit

abbrev pub of_profiles : ProfilesFault → FileFault
of_profiles profiles.Toml = Toml
of_profiles (profiles.BadProfile number field) = BadProfile number field
of_profiles profiles.Memory = Memory

abbrev pub of_scan : ScanFault → FileFault
of_scan scan.NoPoints = Points
of_scan (scan.BadRecord number field) = Record number field
of_scan scan.Many = Many
of_scan scan.Memory = Memory

abbrev pub profiles_or : Result (List Profile) ProfilesFault → Result (List Profile) FileFault
profiles_or (Ok list) = Ok list
profiles_or (Err why) = Err (of_profiles why)

-- the profiles of a file, in the order of their keys
abbrev pub profiles_in : Got → Result (List Profile) FileFault
profiles_in (found bytes) = profiles_or (profiles_of bytes)
profiles_in too_large = Err Large
profiles_in fault = Err Shelf

abbrev pub hot_or : Decimal → Result (List Point) ScanFault → Result (List ℕ) FileFault
hot_or threshold (Ok points) = Ok (hot_of threshold points)
hot_or threshold (Err why) = Err (of_scan why)

-- the hot points of a scan file
abbrev pub hot_in : Sep → Decimal → Got → Result (List ℕ) FileFault
hot_in sep threshold (found bytes) = hot_or threshold (scan_of sep bytes)
hot_in sep threshold too_large = Err Large
hot_in sep threshold fault = Err Shelf

-- ---- replies

abbrev pub field_word : Field → List ℕ
field_word field.Name = codes "name"
field_word field.Table = codes "table"
field_word field.Ranges = codes "ranges"
field_word field.Spacing = codes "spacing"
field_word field.Half = codes "half"
field_word field.M2t3 = codes "m2t3"
field_word field.M3t3 = codes "m3t3"
field_word field.M2t5 = codes "m2t5"
field_word field.M3t5 = codes "m3t5"
field_word field.M2t7 = codes "m2t7"
field_word field.Other = codes "other"

-- the further words of a refused file
abbrev pub fault_words : FileFault → List ℕ
fault_words Large = codes "large"
fault_words Toml = codes "toml"
fault_words (BadProfile number field) = codes "profile " ++ decimal number ++ codes " " ++ field_word field
fault_words Points = codes "points"
fault_words (Record number field) = codes "record " ++ decimal number ++ codes " field " ++ decimal field
fault_words Many = codes "many"
fault_words Shelf = []
fault_words Memory = []

-- The reply to a line whose file gives nothing: E11 where the shelf failed at it, and else E10.
abbrev pub fault_reply : FileFault → Reply
fault_reply Shelf = Error ShelfFault
fault_reply why = BadFile (codes "error E10 " ++ fault_words why ++ codes "\n")
