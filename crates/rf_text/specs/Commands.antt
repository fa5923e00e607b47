-- The command that a line writes.
use Rattle.std.specs.Prelude.{ℕ, List, [], ◌∷◌, Option, Some, None, Result, option_and_then, option_map, ok_or, codes, IsTrue}
use Rattle.rf_show.specs.After.{is_edit}
use Rattle.rf_show.specs.declared.edit.Edit.{Edit}
use Rattle.rf_show.specs.declared.edit.Edit.TheVariants as edit
use Rattle.rf_text.specs.declared.command.Command.{Command}
use Rattle.rf_text.specs.declared.command.Command.TheVariants as command
use Rattle.rf_text.specs.declared.command.UnknownLine.{UnknownLine}
use Rattle.rf_text.specs.Words.{words_of}
use Rattle.rf_text.specs.Shapes.{Row, nothing, last, perhaps, numbers, ◌and◌, ◌takes◌makes◌, a_decimal, a_file, a_name, a_number, a_separator, row_of, row_read}

-- the lines of edits
abbrev pub edit_rows : List (Row Edit)
edit_rows =
    codes "profile" takes a_name and numbers makes edit.AddProfile
    ∷ codes "range" takes a_name and a_number and a_number and last a_number makes edit.AddRange
    ∷ codes "drop-profile" takes last a_name makes edit.DropProfile
    ∷ codes "zone" takes last a_name makes edit.AddZone
    ∷ codes "couple" takes a_name and last a_name makes edit.Couple
    ∷ codes "uncouple" takes a_name and last a_name makes edit.Uncouple
    ∷ codes "far" takes a_name and last a_name makes edit.Far
    ∷ codes "carrier" takes a_name and a_name and last a_name makes edit.AddCarrier
    ∷ codes "remove" takes last a_name makes edit.Remove
    ∷ codes "time" takes a_name and a_number and last a_number makes edit.AddTime
    ∷ codes "always" takes last a_name makes edit.Always
    ∷ codes "set" takes a_name and last a_number makes edit.SetAt
    ∷ codes "clear" takes last a_name makes edit.Clear
    ∷ codes "lock" takes last a_name makes edit.Lock
    ∷ codes "unlock" takes last a_name makes edit.Unlock
    ∷ codes "ban" takes a_number and a_number and perhaps a_name makes edit.AddBan
    ∷ codes "unban" takes last a_number makes edit.Unban
    ∷ codes "unscan" takes last a_number makes edit.Unscan
    ∷ []

-- the lines of all other commands
abbrev pub command_rows : List (Row Command)
command_rows =
    codes "scan" takes a_file and a_name and a_decimal and a_number and last a_separator makes command.Scan
    ∷ codes "profiles" takes last a_file makes command.Profiles
    ∷ codes "undo" takes nothing makes command.Undo
    ∷ codes "redo" takes nothing makes command.Redo
    ∷ codes "report" takes nothing makes command.Report
    ∷ codes "csv" takes nothing makes command.Csv
    ∷ codes "show" takes nothing makes command.Show
    ∷ codes "free" takes last a_name makes command.Free
    ∷ codes "products" takes a_number and last a_number makes command.Products
    ∷ codes "solve" takes last a_number makes command.Solve
    ∷ codes "place" takes last a_number makes command.Place
    ∷ codes "widen" takes last a_number makes command.Widen
    ∷ codes "why" takes last a_number makes command.Why
    ∷ codes "spares" takes a_name and a_name and last a_number makes command.Spares
    ∷ codes "quit" takes nothing makes command.Quit
    ∷ []

-- the edit that a first word and the operands after it write
abbrev pub edit_by : List ℕ → List (List ℕ) → Option Edit
edit_by verb operands = option_and_then (λ row. row_read row operands) (row_of edit_rows verb)

-- by a row of a command; where there is none, by that of an edit
abbrev pub with_row : Option (Row Command) → List ℕ → List (List ℕ) → Option Command
with_row (Some row) verb operands = row_read row operands
with_row None verb operands = option_map command.Change (edit_by verb operands)

-- the command that a first word and the operands after it write
abbrev pub command_by : List ℕ → List (List ℕ) → Option Command
command_by verb operands = with_row (row_of command_rows verb) verb operands

-- the command that the words of a line write
abbrev pub command_with : List (List ℕ) → Option Command
command_with [] = None
command_with (word ∷ operands) = command_by word operands

abbrev pub command_in : List ℕ → Option Command
command_in line = option_and_then command_with (words_of line)

-- the command that a line writes, or that it is in no command's grammar
unfoldable pub command_of : List ℕ → Result Command UnknownLine
command_of line = ok_or (command_in line) (record {})

-- its edit is one that a show can be asked for
abbrev pub IsAskable : Command → Type 0
IsAskable (command.Change edit) = IsTrue (is_edit edit)
IsAskable _ = Unit {0}
