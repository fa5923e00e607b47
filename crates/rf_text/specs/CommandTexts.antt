-- How a command is written.
use Rattle.std.specs.Prelude.{◌≡◌, ℕ, List, [], ◌∷◌, Ok, codes, decimal}
use Rattle.rf_text.specs.declared.command.Command.{Command}
use Rattle.rf_text.specs.declared.command.Command.TheVariants as command
use Rattle.rf_text.specs.Commands.{command_of}
use Rattle.rf_text.specs.Decimals.{decimal_text}
use Rattle.rf_text.specs.EditTexts.{edit_words}
use Rattle.rf_base.specs.Lines.{joined}
use Rattle.rf_text.specs.Separators.{sep_text}

-- the words of a command; none where no line has it
abbrev pub command_words : Command → List (List ℕ)
command_words (command.Change edit) = edit_words edit
command_words (command.Profiles file) = codes "profiles" ∷ file ∷ []
command_words (command.Scan file zone threshold width sep) =
    codes "scan" ∷ file ∷ zone ∷ decimal_text threshold.0 ∷ decimal width ∷ sep_text sep ∷ []
command_words command.Undo = codes "undo" ∷ []
command_words command.Redo = codes "redo" ∷ []
command_words command.Report = codes "report" ∷ []
command_words command.Csv = codes "csv" ∷ []
command_words command.Show = codes "show" ∷ []
command_words (command.Free name) = codes "free" ∷ name ∷ []
command_words (command.Products lo hi) = codes "products" ∷ decimal lo ∷ decimal hi ∷ []
command_words (command.Solve budget) = codes "solve" ∷ decimal budget ∷ []
command_words (command.Place budget) = codes "place" ∷ decimal budget ∷ []
command_words (command.Widen budget) = codes "widen" ∷ decimal budget ∷ []
command_words (command.Why budget) = codes "why" ∷ decimal budget ∷ []
command_words (command.Spares profile zone count) = codes "spares" ∷ profile ∷ zone ∷ decimal count ∷ []
command_words command.Quit = codes "quit" ∷ []

-- the line of a command, without its line feed
abbrev pub command_text_of : Command → List ℕ
command_text_of command = joined (command_words command)

-- some line has the command
abbrev pub IsWritten : Command → Type 0
IsWritten command = (line : List ℕ) × (command_of line ≡ Ok command)
