-- The grammar of a log's lines. Names are numbered as they come.
use Rattle.std.specs.Prelude.{ℕ, zero, suc, List, [], ◌∷◌, ◌++◌, length, Option, Some, None, option_map, option_and_then, codes, slice_set, if◌then◌else◌}
use Rattle.std.specs.Str.{bytes_eq}
use Rattle.rf_base.specs.Decimal.{number_of}
use Rattle.rf_base.specs.Name.{name_of}
use Rattle.rf_terms.specs.declared.kind.Kind.{Kind}
use Rattle.rf_terms.specs.Kinds.{kind_of, roles_of}
use Rattle.rf_log.specs.declared.cond.Cond.{Cond}
use Rattle.rf_log.specs.declared.hint.Hint.{Hint}
use Rattle.rf_log.specs.declared.hint.Hint.TheVariants.{Earlier, Ban, Rule}
use Rattle.rf_log.specs.declared.line.LogLine.{LogLine}
use Rattle.rf_log.specs.declared.line.LogLine.TheVariants.{Nogood, Branch, Up}
use Rattle.rf_log.specs.Words.{words_in}
use Rattle.rf_log.specs.Names.{number_of_name, names_with}
use Rattle.rf_log.specs.Operands.{◌>>=◌, taken, only, side_of, cut_of, target_in, range_in, place_in}

-- `in NAME LO HI` or `out NAME LO HI`: the condition, the names with its name, and the words after it
abbrev pub cond_by : List ℕ → List (List ℕ) → List (List ℕ) → Option (Cond × List (List ℕ) × List (List ℕ))
cond_by word names words = do
  side ← side_of word
  place ← place_in words
  Some (record { carrier = number_of_name names place.0.0; inside = side; lo = place.0.1; hi = place.0.2 }, names_with names place.0.0, place.1)

-- `ban` and then NAME LO HI
abbrev pub ban_in : List (List ℕ) → List (List ℕ) → Option (Hint × List (List ℕ) × List (List ℕ))
ban_in names words = do
  place ← place_in words
  Some (Ban (number_of_name names place.0.0) place.0.1 place.0.2, names_with names place.0.0, place.1)

-- so many names, whose numbers are set into the roles from a place on
abbrev pub roles_in : ℕ → ℕ → List ℕ → List (List ℕ) → List (List ℕ) → Option (List ℕ × List (List ℕ) × List (List ℕ))
roles_in zero place roles names words = Some (roles, names, words)
roles_in (suc count) place roles names words = do
  name ← taken name_of words
  roles_in count (suc place) (slice_set roles place (number_of_name names name.0)) (names_with names name.0) name.1

-- ROLE LO HI
abbrev pub target_range_in : Kind → List (List ℕ) → Option ((ℕ × ℕ × ℕ) × List (List ℕ))
target_range_in kind words = do
  role ← taken number_of words
  target ← target_in kind role.0
  range ← range_in role.1
  Some ((target, range.0.0, range.0.1), range.1)

abbrev pub no_roles : List ℕ
no_roles = 0 ∷ 0 ∷ 0 ∷ 0 ∷ []

-- `rule` and then KIND NAMES ROLE LO HI
abbrev pub rule_in : List (List ℕ) → List (List ℕ) → Option (Hint × List (List ℕ) × List (List ℕ))
rule_in names words = do
  kind ← taken kind_of words
  roles ← roles_in (roles_of kind.0) 0 no_roles names kind.1
  at ← target_range_in kind.0 roles.2
  Some (Rule kind.0 roles.0 at.0.0 at.0.1 at.0.2, roles.1, at.1)

abbrev pub line_hint_in : List (List ℕ) → List (List ℕ) → Option (Hint × List (List ℕ) × List (List ℕ))
line_hint_in names words = option_map (λ w. (Earlier w.0, names, w.1)) (taken number_of words)

abbrev pub hint_by : List ℕ → List (List ℕ) → List (List ℕ) → Option (Hint × List (List ℕ) × List (List ℕ))
hint_by word names words =
    if bytes_eq word (codes "line") then line_hint_in names words
    else if bytes_eq word (codes "ban") then ban_in names words
    else if bytes_eq word (codes "rule") then rule_in names words
    else None

-- after the conditions that are read, fewer than `most` further ones up to `;`
abbrev pub conds_in : ℕ → List Cond → List (List ℕ) → List (List ℕ) → Option (List Cond × List (List ℕ) × List (List ℕ))
conds_in zero conds names words = None
conds_in (suc most) conds names [] = None
conds_in (suc most) conds names (word ∷ words) = if bytes_eq word (codes ";") then Some (conds, names, words)
    else option_and_then (λ read. conds_in most (conds ++ read.0 ∷ []) read.1 read.2) (cond_by word names words)

-- after the hints that are read, fewer than `most` further ones up to the end of the line
abbrev pub hints_in : ℕ → List Hint → List (List ℕ) → List (List ℕ) → Option (List Hint × List (List ℕ))
hints_in zero hints names words = None
hints_in (suc most) hints names [] = Some (hints, names)
hints_in (suc most) hints names (word ∷ words) = option_and_then (λ read. hints_in most (hints ++ read.0 ∷ []) read.1 read.2) (hint_by word names words)

-- conditions, `;` and hints, fewer than `most` of each
abbrev pub nogood_in : ℕ → List (List ℕ) → List (List ℕ) → Option (LogLine × List (List ℕ))
nogood_in most names words = do
  conds ← conds_in most [] names words
  hints ← hints_in most [] conds.1 conds.2
  Some (Nogood conds.0 hints.0, hints.1)

-- `fix NAME K` or `split NAME K`
abbrev pub branch_in : List (List ℕ) → List (List ℕ) → Option (LogLine × List (List ℕ))
branch_in names words = do
  cut ← taken cut_of words
  name ← taken name_of cut.1
  at ← only number_of name.1
  Some (Branch cut.0 (number_of_name names name.0) at, names_with names name.0)

abbrev pub up_in : List (List ℕ) → List (List ℕ) → Option (LogLine × List (List ℕ))
up_in names words = option_map (λ line. (Up line, names)) (only number_of words)

abbrev pub line_by : ℕ → List (List ℕ) → List (List ℕ) → Option (LogLine × List (List ℕ))
line_by most names [] = None
line_by most names (word ∷ words) =
    if bytes_eq word (codes "n") then nogood_in most names words
    else if bytes_eq word (codes "b") then branch_in names words
    else if bytes_eq word (codes "u") then up_in names words
    else None

-- the line that bytes write after the names so far, and the names with its names; none where no line is written so.
-- It has fewer conditions and fewer hints than bytes
abbrev pub line_in : List (List ℕ) → List ℕ → Option (LogLine × List (List ℕ))
line_in names bytes = line_by (length bytes) names (words_in bytes)
