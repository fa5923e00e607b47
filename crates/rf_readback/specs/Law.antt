-- What is written of a log reads back.
use Rattle.std.specs.Prelude.{◌≡◌, ℕ, true, List, [], ◌∷◌, ◌++◌, ◌⊎◌, length, Ok}
use Rattle.std.specs.List.{All, AllZip, flat_map}
use Rattle.rf_base.specs.Name.{IsName}
use Rattle.rf_log.specs.declared.line.LogLine.{LogLine}
use Rattle.rf_log.specs.LineTexts.{line_text_of, IsShortLine}
use Rattle.rf_log.specs.LogText.{LogData, IsLineBelow, is_ending, log_of}
use Rattle.rf_readback.specs.Same.{IsSameLine}

-- nothing, or a line feed and anything after it
abbrev pub IsLineEnd : List ℕ → Type 0
IsLineEnd [] = Unit {0}
IsLineEnd (byte ∷ bytes) = byte ≡ 10

-- a line that ends a log, and anything after that line
pub record IsEnding (tail : List ℕ) : Type 0 where
  pub line : List ℕ
  pub rest : List ℕ
  pub ending : is_ending line ≡ true
  pub end : IsLineEnd rest
  pub whole : tail ≡ line ++ rest

-- a log that bytes write, with the same lines and the same names
pub record IsReadBack (names : List (List ℕ)) (lines : List LogLine) (bytes : List ℕ) : Type 0 where
  pub log : LogData
  pub read : log_of bytes ≡ Ok log
  pub same : AllZip (IsSameLine names log.names) lines log.lines

-- lines that are written one after another read back as the same lines with the same names, also where a line that ends a
-- log comes after them
abbrev pub WrittenReadsBack : Type 0
WrittenReadsBack = (names : List (List ℕ)) (lines : List LogLine) (tail : List ℕ)
    → All IsName names → All (IsLineBelow (length names)) lines → All IsShortLine lines → (tail ≡ []) ⊎ IsEnding tail
    → IsReadBack names lines (flat_map (line_text_of names) lines ++ tail)
