use Rattle.std.specs.Prelude.{ℕ, Bool, List, [], ◌∷◌, ◌++◌, ◌+◌, ◌==◌, ◌&&◌, ◌||◌, nat_lt, nat_le, if◌then◌else◌, Option, Some, None, Result, Ok, Err, is_none, option_and_then, length, reverse, ℤ}
use Rattle.std.specs.Prelude.{pos, negsuc}
use Rattle.csv.specs.Reading.{default_config, records, strip_bom}
use Rattle.csv.specs.Records.{field_at}
use Rattle.csv.specs.declared.parser.Config.{Config}
use Rattle.rf_base.specs.Decimal.{decimal_of}
use Rattle.rf_exclusions.specs.declared.scan_set.Sep.{Sep}
use Rattle.rf_exclusions.specs.declared.scan_set.Sep.TheVariants.{Comma, Semicolon, Tab}
use Rattle.rf_scan.specs.declared.point.Point.{Point}
use Rattle.rf_scan.specs.declared.fault.ScanFault.{ScanFault}
use Rattle.rf_scan.specs.declared.fault.ScanFault.TheVariants.{NoPoints, BadRecord, Many}

abbrev pub separator : Sep → ℕ
separator Comma = 44
separator Semicolon = 59
separator Tab = 9

-- how a scan file is read
abbrev pub config : Sep → Config
config sep = record default_config { delimiter = separator sep }

-- the fields of a record
abbrev pub Fields : Type 0
Fields = List (List ℕ)

abbrev pub is_blank : ℕ → Bool
is_blank b = (b == 32) || (b == 9)

unfoldable pub trim_front : List ℕ → List ℕ
trim_front [] = []
trim_front (b ∷ bs) = if is_blank b then trim_front bs else b ∷ bs

abbrev pub trim_back : List ℕ → List ℕ
trim_back bs = reverse (trim_front (reverse bs))

-- a field without the spaces and tabs at both ends
abbrev pub trimmed : List ℕ → List ℕ
trimmed bs = trim_back (trim_front bs)

-- the decimal in a field
unfoldable pub decimal_at : Fields → ℕ → Option ℤ
decimal_at fields i = option_and_then (λ f. decimal_of (trimmed f)) (field_at fields i)

-- the number of millihertz, from 0.001 to 10000 megahertz
abbrev pub frequency_of : Option ℤ → Option ℕ
frequency_of None = None
frequency_of (Some (negsuc n)) = None
frequency_of (Some (pos n)) = if nat_le 1_000_000 n && nat_le n 10_000_000_000_000 then Some n else None

abbrev pub with_level : Option ℕ → Option ℤ → Result Point ℕ
with_level None level = Err 1
with_level (Some n) None = Err 2
with_level (Some n) (Some l) = Ok (record { millihertz = n; level = record { 0 = l } })

-- the point of a record, or the number of the field that is wrong
unfoldable pub point_of : Fields → Result Point ℕ
point_of fields = with_level (frequency_of (decimal_at fields 0)) (decimal_at fields 1)

-- what comes of a record's point: a fault, or one point more for the rest of the file
abbrev pub with_point : Result Point ℕ → ℕ → List Point → (List Point → Result (List Point) ScanFault) → Result (List Point) ScanFault
with_point (Err field) number points more = Err (BadRecord number field)
with_point (Ok p) number points more = if nat_lt (length points) 200000 then more (points ++ p ∷ []) else Err Many

-- a record before the first point whose first field is no decimal; there are `count` points so far
unfoldable pub is_passed_over : ℕ → Fields → Bool
is_passed_over count fields = (count == 0) && is_none (decimal_at fields 0)

-- the points of the records from `number` on, after those so far
unfoldable pub scan_from : ℕ → List Point → List Fields → Result (List Point) ScanFault
scan_from number points [] = if length points == 0 then Err NoPoints else Ok points
scan_from number points (fields ∷ rest) =
    if is_passed_over (length points) fields then scan_from (number + 1) points rest
    else with_point (point_of fields) number points (λ more. scan_from (number + 1) more rest)

-- the points of a scan file
unfoldable pub scan_of : Sep → List ℕ → Result (List Point) ScanFault
scan_of sep bytes = scan_from 1 [] (records (config sep) (strip_bom bytes))
