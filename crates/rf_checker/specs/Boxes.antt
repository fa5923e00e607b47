-- Boxes as lists of sets.
use Rattle.std.specs.Prelude.{◌≡◌, ℕ, ◌<◌, ◌≤◌, List, [], true, length, slice_index_or}
use Rattle.rf_exclusions.specs.declared.span.Span.{Span}
use Rattle.rf_exclusions.specs.Spans.{has_in}
use Rattle.rf_log.specs.declared.cond.Cond.{Cond}
use Rattle.rf_log.specs.Case.{Case, count_of}
use Rattle.rf_log.specs.Box.{Box}

-- the box for which a list of sets stands
abbrev pub box_in : List (List Span) → Box
box_in sets c k = has_in (slice_index_or sets c []) k

-- each number of the set is below the count
abbrev pub IsBelow : ℕ → List Span → Type 0
IsBelow count set = (k : ℕ) → has_in set k ≡ true → k < count

-- a set of indices for each carrier of the case
pub record IsBoxFor (case : Case) (sets : List (List Span)) : Type 0 where
  pub full : length sets ≡ length case.carriers
  pub below : (c : ℕ) → IsBelow (count_of case c) (slice_index_or sets c [])

-- the condition is one on the case's indices
pub record Fits (case : Case) (cond : Cond) : Type 0 where
  pub known : cond.carrier < length case.carriers
  pub rising : cond.lo ≤ cond.hi
  pub index : cond.hi < count_of case cond.carrier
