-- What the writer of a log makes of its sink.
use Rattle.std.specs.Prelude.{◌≡◌, ℕ, List, length}
use Rattle.std.specs.Io.KnownBytes.{Appends}
use Rattle.std.specs.declared.option.Option.{Option}
use Rattle.rf_base.specs.Piece.{AppendsPrefix}
use Rattle.rf_log.specs.LineTexts.{line_text_of}
use Rattle.rf_log.specs.declared.hint.Hint.{Hint}
use Rattle.rf_log.specs.declared.hint.Hint.TheVariants.{Earlier, Ban, Rule}
use Rattle.rf_log.specs.declared.line.LogLine.{LogLine}
use Rattle.rf_solving.specs.Solving.{IsWritten}

-- a line over these names was written whole
pub record Wrote (names : List (List ℕ)) (old new : Option (List ℕ)) (line : LogLine) : Type 0 where
  pub written : IsWritten (length names) line
  pub wrote : Appends old new (line_text_of names line)

-- a part of it was
abbrev pub WrotePart : List (List ℕ) → Option (List ℕ) → Option (List ℕ) → LogLine → Type 0
WrotePart names old new line = AppendsPrefix old new (line_text_of names line)

-- a rule has room for four roles
abbrev pub HasRoles : Hint → Type 0
HasRoles (Earlier line) = Unit {0}
HasRoles (Ban carrier lo hi) = Unit {0}
HasRoles (Rule kind roles target lo hi) = length roles ≡ 4
