-- The words of a line.
use Rattle.std.specs.Prelude.{ℕ, Bool, true, false, List, [], ◌∷◌, length, not, ◌==◌, ◌&&◌, if◌then◌else◌, Option, Some, None}
use Rattle.std.specs.List.{list_all, slice_split}
use denote.Ref.{Bor}
use Rattle.rf_base.specs.Words.{is_space, is_word_byte}

-- one or more of these bytes
abbrev pub is_word : List ℕ → Bool
is_word part = not (length part == 0) && list_all is_word_byte part

-- the words of a line: its parts between single spaces, where each is a word
unfoldable pub words_of : List ℕ → Option (List (List ℕ))
words_of line = if list_all is_word (slice_split is_space line) then Some (slice_split is_space line) else None

-- the words of what is left of a line
abbrev pub parts_of : Option (Bor (List ℕ)) → List (List ℕ)
parts_of None = []
parts_of (Some rest) = slice_split is_space rest.now

-- the word where it is the only one
abbrev pub only : List (List ℕ) → Option (List ℕ)
only [] = None
only (word ∷ []) = Some word
only (word ∷ next ∷ words) = None

-- there is no word
abbrev pub is_empty : List (List ℕ) → Bool
is_empty [] = true
is_empty (word ∷ words) = false
