-- What an audit of a log finds: the first line that is invalid or a dishonest branching.
use Rattle.std.specs.Prelude.{◌≡◌, ◌+◌, ◌⊎◌, List, [], ◌∷◌, ◌++◌, Some, None, length}
use Rattle.std.specs.List.{count_by}
use Rattle.rf_log.specs.declared.line.LogLine.{LogLine}
use Rattle.rf_log.specs.Case.{Case}
use Rattle.rf_log.specs.Walk.{Tree, cause_of, tree_after, is_branch}
use Rattle.rf_log.specs.Solved.{IsHonestLine}
use Rattle.rf_audit.specs.declared.answer.Audit.{Audit}
use Rattle.rf_audit.specs.declared.answer.Audit.TheVariants.{Honest, Dishonest, Refused}

-- what is found in the rest of the lines, after the lines before them, which are valid and honest
abbrev pub Finds : Case → List LogLine → Tree → List LogLine → Audit → Type 0
Finds case lines tree [] found = found ≡ Honest (count_by is_branch lines)
Finds case lines tree (line ∷ rest) found = elim (cause_of case lines tree line) as (λ _. Type 0) [
  | Some reason ↦ found ≡ Refused (length lines + 1) reason
  | None ↦ (IsHonestLine case tree line × Finds case (lines ++ line ∷ []) (tree_after tree line) rest found)
      ⊎ ((IsHonestLine case tree line → ⊥) × (found ≡ Dishonest (length lines + 1)))
]

-- what an audit of a log finds
abbrev pub IsAudited : Case → List LogLine → Audit → Type 0
IsAudited case log found = Finds case [] (Some []) log found
