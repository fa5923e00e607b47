-- An audit finds one thing, and finds a log of a search under way honest.
use Rattle.std.proofs.Common.{◌≡◌, ◌∙◌, ◌+◌, List, [], ◌∷◌, ◌++◌, ◌⊎◌, inl, inr, sym, ap, false, length, Some, None, true≢false, append_assoc, append-nil, Option}
use Rattle.std.specs.List.{count_by}
use Rattle.rf_log.specs.declared.line.LogLine.{LogLine}
use Rattle.rf_log.specs.declared.verdict.Cause.{Cause}
use Rattle.rf_log.specs.declared.verdict.Verdict.{Verdict}
use Rattle.rf_log.specs.declared.verdict.Verdict.TheVariants as verdict
use Rattle.rf_log.specs.Case.{Case}
use Rattle.rf_log.specs.Walk.{Tree, walk, cause_of, tree_after, is_branch}
use Rattle.rf_log.specs.Solved.{IsHonestLine, IsHonestFrom, is_refused}
use Rattle.rf_audit.specs.Audited.{Finds}
use Rattle.rf_audit.specs.declared.answer.Audit.{Audit}
use Rattle.rf_audit.specs.declared.answer.Audit.TheVariants.{Honest, Dishonest, Refused}

-- what is found, by the cause of the first of the rest
abbrev pub FindsBy : Case → List LogLine → Tree → LogLine → List LogLine → Audit → Option Cause → Type 0
FindsBy case lines tree line rest found o = elim o as (λ _. Type 0) [
  | Some reason ↦ found ≡ Refused (length lines + 1) reason
  | None ↦ (IsHonestLine case tree line × Finds case (lines ++ line ∷ []) (tree_after tree line) rest found)
      ⊎ ((IsHonestLine case tree line → ⊥) × (found ≡ Dishonest (length lines + 1)))
]

-- how the walk goes on, by the cause of the first of the rest
abbrev pub walk_by : Case → List LogLine → Tree → LogLine → List LogLine → Option Cause → Verdict
walk_by case lines tree line rest o = elim o as (λ _. Verdict) [
  | None ↦ walk case (lines ++ line ∷ []) (tree_after tree line) rest
  | Some reason ↦ verdict.Refused (length lines + 1) reason
]

pub honest-found : (case : Case) (lines : List LogLine) (tree : Tree) (rest : List LogLine) (found : Audit)
    → is_refused (walk case lines tree rest) ≡ false → IsHonestFrom case tree rest → Finds case lines tree rest found
    → found ≡ Honest (count_by is_branch (lines ++ rest))
honest-found case lines tree [] found valid honest finds = finds ∙ ap (λ (xs : List LogLine). Honest (count_by is_branch xs)) (sym (append-nil lines))
honest-found case lines tree (line ∷ rest) found valid honest finds =
    let P : Option Cause → Type 0 =
    λ o. is_refused (walk_by case lines tree line rest o) ≡ false → FindsBy case lines tree line rest found o → found ≡ Honest (count_by is_branch (lines ++ (line ∷ rest))) in
    let all : (o : Option Cause) → P o = λ o. elim o as P [
      | Some reason ↦ λ v f. absurd (true≢false v)
      | None ↦ λ v f. elim f [
        | inl on ↦ honest-found case (lines ++ line ∷ []) (tree_after tree line) rest found v honest.1 on.1
            ∙ ap (λ (xs : List LogLine). Honest (count_by is_branch xs)) (append_assoc lines (line ∷ []) rest)
        | inr off ↦ absurd (off.0 honest.0)
      ]
    ] in
    all (cause_of case lines tree line) valid finds

pub finds-one : (case : Case) (lines : List LogLine) (tree : Tree) (rest : List LogLine) (one other : Audit)
    → Finds case lines tree rest one → Finds case lines tree rest other → one ≡ other
finds-one case lines tree [] one other a b = a ∙ sym b
finds-one case lines tree (line ∷ rest) one other a b =
    let P : Option Cause → Type 0 = λ o. FindsBy case lines tree line rest one o → FindsBy case lines tree line rest other o → one ≡ other in
    let all : (o : Option Cause) → P o = λ o. elim o as P [
      | Some reason ↦ λ a b. a ∙ sym b
      | None ↦ λ a b. elim a [
        | inl on ↦ elim b [
          | inl on2 ↦ finds-one case (lines ++ line ∷ []) (tree_after tree line) rest one other on.1 on2.1
          | inr off2 ↦ absurd (off2.0 on.0)
        ]
        | inr off ↦ elim b [
          | inl on2 ↦ absurd (off.0 on2.0)
          | inr off2 ↦ off.1 ∙ sym off2.1
        ]
      ]
    ] in
    all (cause_of case lines tree line) a b
