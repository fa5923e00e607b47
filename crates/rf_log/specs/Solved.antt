-- What a solver's log and answer have to be: valid lines, honest branchings, and one of three endings.
use Rattle.std.specs.Prelude.{◌≡◌, ℕ, ◌+◌, ◌<◌, ◌≤◌, List, [], ◌∷◌, Some, None, Bool, true, false, length}
use Rattle.std.specs.List.{count_by}
use Rattle.rf_log.specs.declared.cond.Cond.{Cond}
use Rattle.rf_log.specs.declared.line.LogLine.{LogLine}
use Rattle.rf_log.specs.declared.line.LogLine.TheVariants.{Nogood, Branch, Up}
use Rattle.rf_log.specs.declared.verdict.Verdict.{Verdict}
use Rattle.rf_log.specs.declared.verdict.Verdict.TheVariants as verdict
use Rattle.rf_log.specs.Case.{Case, IsPlan}
use Rattle.rf_log.specs.Box.{is_met}
use Rattle.rf_log.specs.Relations.{IsLiving}
use Rattle.rf_log.specs.Closure.{Closure}
use Rattle.rf_log.specs.Walk.{Tree, left_side, tree_after, is_branch, verdict_of}

-- the tree after all these lines
abbrev pub tree_from : Tree → List LogLine → Tree
tree_from tree [] = tree
tree_from tree (line ∷ lines) = tree_from (tree_after tree line) lines

abbrev pub is_nogood : LogLine → Bool
is_nogood (Nogood conds hints) = true
is_nogood (Branch cut carrier at) = false
is_nogood (Up line) = false

abbrev pub is_refused : Verdict → Bool
is_refused verdict.Closed = false
is_refused (verdict.Unfinished branchings) = false
is_refused (verdict.Refused line cause) = true

-- the closure of the path has no empty set, and an index on each side of the decision
pub record IsHonest (case : Case) (path : List Cond) (cond : Cond) : Type 0 where
  pub living : IsLiving case (Closure case path)
  pub left : (k : ℕ) × Closure case path cond.carrier k × (is_met cond k ≡ true)
  pub right : (k : ℕ) × Closure case path cond.carrier k × (is_met cond k ≡ false)

-- a branch line is honest after the path before it
abbrev pub IsHonestLine : Case → Tree → LogLine → Type 0
IsHonestLine case tree (Nogood conds hints) = Unit {0}
IsHonestLine case None (Branch cut carrier at) = ⊥
IsHonestLine case (Some path) (Branch cut carrier at) = IsHonest case path (left_side cut carrier at)
IsHonestLine case tree (Up line) = Unit {0}

abbrev pub IsHonestFrom : Case → Tree → List LogLine → Type 0
IsHonestFrom case tree [] = Unit {0}
IsHonestFrom case tree (line ∷ lines) = IsHonestLine case tree line × IsHonestFrom case (tree_after tree line) lines

-- valid lines, honest branchings, at most n of them, and at most one nogood line more
pub record IsStarted (case : Case) (n : ℕ) (log : List LogLine) : Type 0 where
  pub valid : is_refused (verdict_of case log) ≡ false
  pub honest : IsHonestFrom case (Some []) log
  pub within : count_by is_branch log ≤ n
  pub one_each : count_by is_nogood log ≤ count_by is_branch log + 1

-- the budget is used up, and the closure of the path leaves a carrier two indices
pub record IsSpent (case : Case) (n : ℕ) (log : List LogLine) : Type 0 where
  pub all : count_by is_branch log ≡ n
  pub path : List Cond
  pub at : tree_from (Some []) log ≡ Some path
  pub living : IsLiving case (Closure case path)
  pub carrier : ℕ
  pub known : carrier < length case.carriers
  pub one : (k : ℕ) × Closure case path carrier k
  pub other : (k : ℕ) × Closure case path carrier k × (k ≡ one.0 → ⊥)

pub data Ending : Type 0 where
  planned : List ℕ → Ending
  refuted : Ending
  spent : Ending

-- the ending is right after the log
abbrev pub Ends : Case → ℕ → List LogLine → Ending → Type 0
Ends case n log (planned plan) = IsPlan case plan
Ends case n log refuted = verdict_of case log ≡ verdict.Closed
Ends case n log spent = IsSpent case n log

pub record IsSolved (case : Case) (n : ℕ) (log : List LogLine) (ending : Ending) : Type 0 where
  pub started : IsStarted case n log
  pub ends : Ends case n log ending
