-- How the lines of a log are written.
use Rattle.std.specs.Prelude.{ℕ, ◌+◌, ◌≤◌, List, [], ◌∷◌, ◌++◌, Bool, map, take, decimal, codes, slice_index_or, if◌then◌else◌}
use Rattle.std.specs.List.{All, flat_map}
use Rattle.rf_terms.specs.Kinds.{roles_of, text_of}
use Rattle.rf_log.specs.declared.cond.Cond.{Cond}
use Rattle.rf_log.specs.declared.line.Cut.{Cut}
use Rattle.rf_log.specs.declared.line.Cut.TheVariants.{Fix, Split}
use Rattle.rf_log.specs.declared.hint.Hint.{Hint}
use Rattle.rf_log.specs.declared.hint.Hint.TheVariants.{Earlier, Ban, Rule}
use Rattle.rf_log.specs.declared.line.LogLine.{LogLine}
use Rattle.rf_log.specs.declared.line.LogLine.TheVariants.{Nogood, Branch, Up}

-- words, each after a space
abbrev pub spaced : List (List ℕ) → List ℕ
spaced words = flat_map (λ word. 32 ∷ word) words

abbrev pub name_at : List (List ℕ) → ℕ → List ℕ
name_at names carrier = slice_index_or names carrier []

abbrev pub side_text : Bool → List ℕ
side_text inside = if inside then codes "in" else codes "out"

abbrev pub cut_text : Cut → List ℕ
cut_text Fix = codes "fix"
cut_text Split = codes "split"

abbrev pub cond_words : List (List ℕ) → Cond → List (List ℕ)
cond_words names cond = side_text cond.inside ∷ name_at names cond.carrier ∷ decimal cond.lo ∷ decimal cond.hi ∷ []

abbrev pub hint_words : List (List ℕ) → Hint → List (List ℕ)
hint_words names (Earlier line) = codes "line" ∷ decimal line ∷ []
hint_words names (Ban carrier lo hi) = codes "ban" ∷ name_at names carrier ∷ decimal lo ∷ decimal hi ∷ []
hint_words names (Rule kind roles target lo hi) =
    codes "rule" ∷ text_of kind ∷ (map (name_at names) (take (roles_of kind) roles) ++ decimal (target + 1) ∷ decimal lo ∷ decimal hi ∷ [])

-- the line of a log line, with its line feed
abbrev pub line_text_of : List (List ℕ) → LogLine → List ℕ
line_text_of names (Nogood conds hints) = codes "n" ++ (flat_map (λ cond. spaced (cond_words names cond)) conds
    ++ (codes " ;" ++ (flat_map (λ hint. spaced (hint_words names hint)) hints ++ 10 ∷ [])))
line_text_of names (Branch cut carrier at) = codes "b" ++ (spaced (cut_text cut ∷ name_at names carrier ∷ decimal at ∷ []) ++ 10 ∷ [])
line_text_of names (Up line) = codes "u" ++ (spaced (decimal line ∷ []) ++ 10 ∷ [])

abbrev pub IsShort : ℕ → Type 0
IsShort n = n ≤ 999999999

abbrev pub IsShortCond : Cond → Type 0
IsShortCond cond = IsShort cond.lo × IsShort cond.hi

abbrev pub IsShortHint : Hint → Type 0
IsShortHint (Earlier line) = IsShort line
IsShortHint (Ban carrier lo hi) = IsShort lo × IsShort hi
IsShortHint (Rule kind roles target lo hi) = IsShort lo × IsShort hi

-- the numbers of the line are at most 999,999,999
abbrev pub IsShortLine : LogLine → Type 0
IsShortLine (Nogood conds hints) = All IsShortCond conds × All IsShortHint hints
IsShortLine (Branch cut carrier at) = IsShort at
IsShortLine (Up line) = IsShort line
