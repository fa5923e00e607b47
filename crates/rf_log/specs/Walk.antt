-- The walk through the lines of a log: the tree of branchings, and the first cause by which a line is invalid.
use Rattle.std.specs.Prelude.{ℕ, ◌+◌, List, [], ◌∷◌, ◌++◌, Option, Some, None, Bool, true, false, ◌&&◌, nat_lt, nat_le, length, take, slice_index, is_some, if◌then◌else◌}
use Rattle.std.specs.List.{list_all, count_by}
use Rattle.rf_log.specs.declared.cond.Cond.{Cond}
use Rattle.rf_log.specs.declared.line.Cut.{Cut}
use Rattle.rf_log.specs.declared.line.Cut.TheVariants.{Fix, Split}
use Rattle.rf_log.specs.declared.hint.Hint.{Hint}
use Rattle.rf_log.specs.declared.hint.Hint.TheVariants.{Earlier, Ban, Rule}
use Rattle.rf_log.specs.declared.line.LogLine.{LogLine}
use Rattle.rf_log.specs.declared.line.LogLine.TheVariants.{Nogood, Branch, Up}
use Rattle.rf_log.specs.declared.verdict.Cause.{Cause}
use Rattle.rf_log.specs.declared.verdict.Cause.TheVariants as cause
use Rattle.rf_log.specs.declared.verdict.Verdict.{Verdict}
use Rattle.rf_log.specs.declared.verdict.Verdict.TheVariants as verdict
use Rattle.rf_terms.specs.Kinds.{roles_of}
use Rattle.rf_log.specs.Case.{Case, count_of}
use Rattle.rf_log.specs.Box.{Box, box_of, holds_throughout}
use Rattle.rf_log.specs.Hints.{nogood_at, box_after, is_valid_nogood}

-- Each test of a line is true where the line passes it.

abbrev pub knows_cond : Case → Cond → Bool
knows_cond case cond = nat_lt cond.carrier (length case.carriers)

abbrev pub knows_hint : Case → Hint → Bool
knows_hint case (Earlier line) = true
knows_hint case (Ban carrier lo hi) = nat_lt carrier (length case.carriers)
knows_hint case (Rule kind roles target lo hi) = list_all (λ c. nat_lt c (length case.carriers)) (take (roles_of kind) roles)

abbrev pub knows_names : Case → LogLine → Bool
knows_names case (Nogood conds hints) = list_all (knows_cond case) conds && list_all (knows_hint case) hints
knows_names case (Branch cut carrier at) = nat_lt carrier (length case.carriers)
knows_names case (Up line) = true

abbrev pub fits : Case → ℕ → ℕ → ℕ → Bool
fits case c lo hi = nat_le lo hi && nat_lt hi (count_of case c)

abbrev pub fits_cond : Case → Cond → Bool
fits_cond case cond = fits case cond.carrier cond.lo cond.hi

abbrev pub fits_hint : Case → Hint → Bool
fits_hint case (Earlier line) = true
fits_hint case (Ban carrier lo hi) = fits case carrier lo hi
fits_hint case (Rule kind roles target lo hi) = fits case (slice_index roles target) lo hi

abbrev pub fits_indices : Case → LogLine → Bool
fits_indices case (Nogood conds hints) = list_all (fits_cond case) conds && list_all (fits_hint case) hints
fits_indices case (Branch cut carrier at) = nat_lt at (count_of case carrier)
fits_indices case (Up line) = true

abbrev pub finds_line : List LogLine → Hint → Bool
finds_line lines (Earlier line) = is_some (nogood_at lines line)
finds_line lines (Ban carrier lo hi) = true
finds_line lines (Rule kind roles target lo hi) = true

abbrev pub finds_lines : List LogLine → LogLine → Bool
finds_lines lines (Nogood conds hints) = list_all (finds_line lines) hints
finds_lines lines (Branch cut carrier at) = true
finds_lines lines (Up line) = is_some (nogood_at lines line)

abbrev pub hints_work : Case → List LogLine → LogLine → Bool
hints_work case lines (Nogood conds hints) = is_some (box_after case lines conds hints)
hints_work case lines (Branch cut carrier at) = true
hints_work case lines (Up line) = true

abbrev pub ends_empty : Case → List LogLine → LogLine → Bool
ends_empty case lines (Nogood conds hints) = is_valid_nogood case lines conds hints
ends_empty case lines (Branch cut carrier at) = true
ends_empty case lines (Up line) = true

abbrev pub all_hold : Case → Box → Option (List Cond) → Bool
all_hold case box None = false
all_hold case box (Some conds) = list_all (holds_throughout case box) conds

-- The path of decisions, the last one first: a condition `in` is a left side, its `out` the right side.

abbrev pub follows_path : Case → List LogLine → List Cond → LogLine → Bool
follows_path case lines path (Nogood conds hints) = true
follows_path case lines path (Branch cut carrier at) = true
follows_path case lines path (Up line) = all_hold case (box_of case path) (nogood_at lines line)

abbrev pub unless : Bool → Cause → Option Cause → Option Cause
unless test reason rest = if test then rest else Some reason

-- the tree: none where it is closed, else the path
abbrev pub Tree : Type 0
Tree = Option (List Cond)

-- the first cause by which the line is invalid, or none
abbrev pub cause_of : Case → List LogLine → Tree → LogLine → Option Cause
cause_of case lines None line = Some cause.Closed
cause_of case lines (Some path) line =
    unless (knows_names case line) cause.Name
    (unless (fits_indices case line) cause.Index
    (unless (finds_lines lines line) cause.Line
    (unless (hints_work case lines line) cause.Hint
    (unless (ends_empty case lines line) cause.Empty
    (unless (follows_path case lines path line) cause.Path None)))))

abbrev pub left_side : Cut → ℕ → ℕ → Cond
left_side Fix c k = record { carrier = c; inside = true; lo = k; hi = k }
left_side Split c k = record { carrier = c; inside = true; lo = 0; hi = k }

abbrev pub right_side : Cond → Cond
right_side cond = record cond { inside = false }

-- right sides go, and the last left side is turned
abbrev pub turned : List Cond → Tree
turned [] = None
turned (cond ∷ path) = if cond.inside then Some (right_side cond ∷ path) else turned path

abbrev pub grown : List Cond → LogLine → Tree
grown path (Nogood conds hints) = Some path
grown path (Branch cut carrier at) = Some (left_side cut carrier at ∷ path)
grown path (Up line) = turned path

-- the tree after a valid line
abbrev pub tree_after : Tree → LogLine → Tree
tree_after None line = None
tree_after (Some path) line = grown path line

abbrev pub is_branch : LogLine → Bool
is_branch (Nogood conds hints) = false
is_branch (Branch cut carrier at) = true
is_branch (Up line) = false

abbrev pub verdict_at_end : List LogLine → Tree → Verdict
verdict_at_end lines None = verdict.Closed
verdict_at_end lines (Some path) = verdict.Unfinished (count_by is_branch lines)

-- the walk through the rest of the lines, after the lines before them
abbrev pub walk : Case → List LogLine → Tree → List LogLine → Verdict
walk case lines tree [] = verdict_at_end lines tree
walk case lines tree (line ∷ rest) = elim (cause_of case lines tree line) as (λ _. Verdict) [
  | None ↦ walk case (lines ++ line ∷ []) (tree_after tree line) rest
  | Some reason ↦ verdict.Refused (length lines + 1) reason
]

abbrev pub verdict_of : Case → List LogLine → Verdict
verdict_of case log = walk case [] (Some []) log
