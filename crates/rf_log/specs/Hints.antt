-- What a hint removes from a box, over a case and the lines before it.
use Rattle.std.specs.Prelude.{ℕ, zero, suc, ◌==◌, List, [], ◌∷◌, Option, Some, None, Bool, false, not, ◌&&◌, ◌||◌, take, slice_index, is_some, if◌then◌else◌}
use Rattle.std.specs.List.{list_all, filter}
use Rattle.std.specs.Option.{unwrap_or}
use Rattle.rf_terms.specs.declared.kind.Kind.{Kind}
use Rattle.rf_log.specs.declared.cond.Cond.{Cond}
use Rattle.rf_log.specs.declared.hint.Hint.{Hint}
use Rattle.rf_log.specs.declared.hint.Hint.TheVariants.{Earlier, Ban, Rule}
use Rattle.rf_log.specs.declared.line.LogLine.{LogLine}
use Rattle.rf_log.specs.declared.line.LogLine.TheVariants.{Nogood, Branch, Up}
use Rattle.rf_terms.specs.Kinds.{roles_of}
use Rattle.rf_log.specs.Case.{Case, count_of, is_allowed, is_instance, breaks}
use Rattle.rf_log.specs.Box.{Box, each_below, between, is_met, box_of, holds_throughout, only_index, is_dead, without, nothing}

abbrev pub conds_in : LogLine → Option (List Cond)
conds_in (Nogood conds hints) = Some conds
conds_in (Branch cut carrier at) = None
conds_in (Up line) = None

-- the conditions of the nogood line with that number; the first line has number 1
abbrev pub nogood_at : List LogLine → ℕ → Option (List Cond)
nogood_at lines zero = None
nogood_at [] (suc n) = None
nogood_at (line ∷ lines) (suc zero) = conds_in line
nogood_at (line ∷ lines) (suc (suc n)) = nogood_at lines (suc n)

-- the conditions that don't hold throughout the box
abbrev pub left_open : Case → Box → List Cond → List Cond
left_open case box conds = filter (λ cond. not (holds_throughout case box cond)) conds

-- no condition left open: all goes; one: the indices that meet it
abbrev pub by_open : Box → List Cond → Option Box
by_open box [] = Some nothing
by_open box (cond ∷ []) = Some (without box cond.carrier (is_met cond))
by_open box (first ∷ second ∷ rest) = None

abbrev pub by_line : Case → Box → Option (List Cond) → Option Box
by_line case box None = None
by_line case box (Some conds) = by_open box (left_open case box conds)

-- no index from lo to hi of the carrier is allowed
abbrev pub is_barred : Case → ℕ → ℕ → ℕ → Bool
is_barred case c lo hi = each_below (count_of case c) (λ k. not (between lo hi k && is_allowed case c k))

-- the target has index k, and each other carrier its one index
abbrev pub indices_with : Case → Box → ℕ → ℕ → ℕ → ℕ
indices_with case box target k c = if c == target then k else unwrap_or (only_index case box c) 0

-- an instance whose other carriers have one index each, and which each index from lo to hi of the target breaks
abbrev pub is_ruled_out : Case → Box → Kind → List ℕ → ℕ → ℕ → ℕ → Bool
is_ruled_out case box kind roles target lo hi = is_instance case kind roles
    && list_all (λ c. (c == target) || is_some (only_index case box c)) roles
    && each_below (count_of case target) (λ k. not (between lo hi k) || breaks case kind roles (indices_with case box target k))

-- the box after the hint, or none where the hint has no effect; `found` tells the conditions of an earlier nogood line
abbrev pub effect_of : Case → (ℕ → Option (List Cond)) → Box → Hint → Option Box
effect_of case found box (Earlier line) = by_line case box (found line)
effect_of case found box (Ban carrier lo hi) =
    if is_barred case carrier lo hi then Some (without box carrier (between lo hi)) else None
effect_of case found box (Rule kind roles target lo hi) =
    let carrier = slice_index roles target in
    if is_ruled_out case box kind (take (roles_of kind) roles) carrier lo hi
    then Some (without box carrier (between lo hi)) else None

-- the box after the hints in order, or none where one of them has no effect
abbrev pub after_hints_of : Case → (ℕ → Option (List Cond)) → Box → List Hint → Option Box
after_hints_of case found box [] = Some box
after_hints_of case found box (hint ∷ hints) =
    elim (effect_of case found box hint) as (λ _. Option Box) [ None ↦ None | Some next ↦ after_hints_of case found next hints ]

-- the same, where the nogood lines are those of a log
abbrev pub effect : Case → List LogLine → Box → Hint → Option Box
effect case lines box hint = effect_of case (nogood_at lines) box hint

abbrev pub after_hints : Case → List LogLine → Box → List Hint → Option Box
after_hints case lines box hints = after_hints_of case (nogood_at lines) box hints

-- the box of the conditions after all hints
abbrev pub box_after : Case → List LogLine → List Cond → List Hint → Option Box
box_after case lines conds hints = after_hints case lines (box_of case conds) hints

abbrev pub is_dead_after : Case → Option Box → Bool
is_dead_after case None = false
is_dead_after case (Some box) = is_dead case box

-- each hint has an effect, and in the end some carrier's set is empty
abbrev pub is_valid_nogood : Case → List LogLine → List Cond → List Hint → Bool
is_valid_nogood case lines conds hints = is_dead_after case (box_after case lines conds hints)

-- a nogood line: its number in the log and its conditions
pub record Line : Type 0 where
  pub number : ℕ
  pub conds : List Cond

-- the conditions of the line with that number among these lines
abbrev pub line_at : List Line → ℕ → Option (List Cond)
line_at [] n = None
line_at (line ∷ lines) n = if line.number == n then Some line.conds else line_at lines n
