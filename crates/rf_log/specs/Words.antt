-- The lines of a log's text and their words.
use Rattle.std.specs.Prelude.{ℕ, Bool, List, [], ◌∷◌, ◌==◌, Option, Some, None, if◌then◌else◌, position}
use Rattle.std.specs.List.{slice_split}
use denote.Ref.{Bor}
use Rattle.rf_base.specs.Words.{is_space}

abbrev pub is_feed : ℕ → Bool
is_feed byte = byte == 10

-- the parts of a line between single spaces
abbrev pub words_in : List ℕ → List (List ℕ)
words_in line = slice_split is_space line

-- the words of what is left of a line
abbrev pub words_left : Option (Bor (List ℕ)) → List (List ℕ)
words_left None = []
words_left (Some rest) = words_in rest.now

abbrev pub feed_of : List ℕ → Option ℕ
feed_of bytes = position is_feed bytes

-- the lines, with a byte before them that is no line feed
abbrev pub with_byte : ℕ → List (List ℕ) → List (List ℕ)
with_byte byte [] = (byte ∷ []) ∷ []
with_byte byte (line ∷ lines) = (byte ∷ line) ∷ lines

-- the lines of a text; the last one may lack its line feed
abbrev pub lines_in : List ℕ → List (List ℕ)
lines_in [] = []
lines_in (byte ∷ bytes) = if is_feed byte then [] ∷ lines_in bytes else with_byte byte (lines_in bytes)
