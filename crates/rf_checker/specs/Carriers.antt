-- A log over a show: the names of the log are carriers of the show.
use Rattle.std.specs.Prelude.{ℕ, List, map, length, slice_index_or}
use Rattle.std.specs.List.{position_or_len}
use Rattle.rf_log.specs.declared.cond.Cond.{Cond}
use Rattle.rf_log.specs.declared.hint.Hint.{Hint}
use Rattle.rf_log.specs.declared.hint.Hint.TheVariants.{Earlier, Ban, Rule}
use Rattle.rf_log.specs.declared.line.LogLine.{LogLine}
use Rattle.rf_log.specs.declared.line.LogLine.TheVariants.{Nogood, Branch, Up}
use Rattle.rf_log.specs.LogText.{LogData}
use Rattle.rf_show.specs.Show.{ShowData, is_carrier}
use Rattle.rf_show.specs.declared.carrier.Carrier.{Carrier}

-- the place of the carrier of a name, or how many carriers there are where no carrier has it
abbrev pub place_named : List Carrier → List ℕ → ℕ
place_named carriers name = position_or_len (is_carrier name) carriers

-- the places of names
abbrev pub places_named : List Carrier → List (List ℕ) → List ℕ
places_named carriers names = map (place_named carriers) names

-- a place by its number, and another number past the end
abbrev pub place_at : List ℕ → ℕ → ℕ → ℕ
place_at places other c = slice_index_or places c other

-- a condition, a hint and a line whose carriers are changed

abbrev pub cond_with : (ℕ → ℕ) → Cond → Cond
cond_with at cond = record cond { carrier = at cond.carrier }

abbrev pub hint_with : (ℕ → ℕ) → Hint → Hint
hint_with at (Earlier line) = Earlier line
hint_with at (Ban carrier lo hi) = Ban (at carrier) lo hi
hint_with at (Rule kind roles target lo hi) = Rule kind (map at roles) target lo hi

abbrev pub line_with : (ℕ → ℕ) → LogLine → LogLine
line_with at (Nogood conds hints) = Nogood (map (cond_with at) conds) (map (hint_with at) hints)
line_with at (Branch cut carrier index) = Branch cut (at carrier) index
line_with at (Up line) = Up line

-- the lines of a log with the show's carriers in place of its names. An unknown name goes past the show's carriers
abbrev pub lines_over : ShowData → LogData → List LogLine
lines_over show log = map (line_with (place_at (places_named show.carriers log.names) (length show.carriers))) log.lines
