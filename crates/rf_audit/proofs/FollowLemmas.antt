-- One line more of an audit.
use Rattle.std.proofs.Common.{◌≡◌, ℕ, suc, ◌+◌, ◌<◌, List, [], ◌∷◌, ◌++◌, length, Bool, refl, sym, ◌∙◌, ap, subst, arith, inl, inr, take, drop, drop-cons, get_or, length-append, Option}
use Rattle.std.proofs.Common.{Some, None, if◌then◌else◌, eq-eqb, length-take-le}
use Rattle.std.proofs.lemmas.Bool.Decides.{nat_tests}
use Rattle.std.proofs.lemmas.List.{take_more}
use Rattle.rf_log.specs.declared.line.LogLine.{LogLine}
use Rattle.rf_log.specs.declared.verdict.Cause.{Cause}
use Rattle.rf_log.specs.declared.verdict.Verdict.{Verdict}
use Rattle.rf_log.specs.declared.verdict.Verdict.TheVariants as verdict
use Rattle.rf_log.specs.Case.{Case}
use Rattle.rf_log.specs.Walk.{Tree, walk, cause_of, tree_after}
use Rattle.rf_log.specs.Solved.{IsHonestLine}
use Rattle.rf_audit.specs.Audited.{Finds}
use Rattle.rf_audit.specs.Follow.{refusal_at}
use Rattle.rf_audit.specs.declared.answer.Audit.{Audit}
use Rattle.rf_audit.specs.declared.answer.Audit.TheVariants.{Dishonest, Refused}
use Rattle.rf_audit.proofs.AuditLaws.{FindsBy, walk_by}

-- a walk refuses no line before the rest
late : (case : Case) (lines : List LogLine) (tree : Tree) (rest : List LogLine) (n : ℕ) (reason : Cause) → walk case lines tree rest ≡ verdict.Refused n reason → length lines < n
late case lines None [] n reason e = cc
late case lines (Some path) [] n reason e = cc
late case lines tree (line ∷ rest) n reason e =
    let P : Option Cause → Type 0 = λ o. walk_by case lines tree line rest o ≡ verdict.Refused n reason → length lines < n in
    let all : (o : Option Cause) → P o = λ o. elim o as P [
      | None ↦ λ e. (let after = late case (lines ++ line ∷ []) (tree_after tree line) rest n reason e in let long = length-append lines (line ∷ []) in omega (arith, after, long))
      | Some found ↦ λ e. (let is : length lines + 1 ≡ n = cc in omega (arith, is))
    ] in
    all (cause_of case lines tree line) e

not-here : (v : Verdict) (i : ℕ) → ((n : ℕ) (reason : Cause) → v ≡ verdict.Refused n reason → i < n) → refusal_at v i ≡ None
not-here verdict.Closed i far = refl
not-here (verdict.Unfinished b) i far = refl
not-here (verdict.Refused n reason) i far = let low = far n reason refl in grind (arith, nat_tests, low)

-- the verdict tells the cause of the first of the rest
pub refusal-is : (case : Case) (lines : List LogLine) (tree : Tree) (line : LogLine) (rest : List LogLine) (v : Verdict)
    → walk case lines tree (line ∷ rest) ≡ v → refusal_at v (length lines + 1) ≡ cause_of case lines tree line
refusal-is case lines tree line rest v e =
    let P : Option Cause → Type 0 = λ o. walk_by case lines tree line rest o ≡ v → refusal_at v (length lines + 1) ≡ o in
    let all : (o : Option Cause) → P o = λ o. elim o as P [
      | None ↦ λ e. not-here v (length lines + 1) (λ n reason is.
          let after = late case (lines ++ line ∷ []) (tree_after tree line) rest n reason (e ∙ is) in
          let long = length-append lines (line ∷ []) in omega (arith, after, long))
      | Some reason ↦ λ e. subst (λ (w : Verdict). refusal_at w (length lines + 1) ≡ Some reason) e
          (ap (λ (b : Bool). if b then Some reason else None) (eq-eqb (length lines + 1) (length lines + 1) refl))
    ] in
    all (cause_of case lines tree line) e

module _ (case : Case) (lines : List LogLine) (i : ℕ) (line : LogLine) (tree : Tree) (v : Verdict) (low : i < length lines)
    (is : line ≡ get_or lines i line) (walked : walk case (take i lines) tree (drop i lines) ≡ v) where
  long : length (take i lines) ≡ i
  long = length-take-le i lines (omega (arith, low))

  abbrev rest : List LogLine
  rest = drop (i + 1) lines

  opened : drop i lines ≡ line ∷ rest
  opened = let e : suc i ≡ i + 1 = omega arith in
      drop-cons lines i line low ∙ ap (λ (n : ℕ). get_or lines i line ∷ drop n lines) e ∙ ap (λ (l : LogLine). l ∷ rest) (sym is)

  -- the verdict tells the line's cause
  pub refusal-here : refusal_at v (i + 1) ≡ cause_of case (take i lines) tree line
  refusal-here =
      ap (λ (n : ℕ). refusal_at v (n + 1)) (sym long)
      ∙ refusal-is case (take i lines) tree line rest v (ap (λ (xs : List LogLine). walk case (take i lines) tree xs) (sym opened) ∙ walked)

  -- what is found by what the verdict tells
  finds-here : (o : Option Cause) (found : Audit) → refusal_at v (i + 1) ≡ o → FindsBy case (take i lines) tree line rest found o → Finds case (take i lines) tree (drop i lines) found
  finds-here o found said by = subst (λ (xs : List LogLine). Finds case (take i lines) tree xs found) (sym opened)
      (subst (λ (p : Option Cause). FindsBy case (take i lines) tree line rest found p) (sym said ∙ refusal-here) by)

  pub refused-here : (reason : Cause) → refusal_at v (i + 1) ≡ Some reason → Finds case (take i lines) tree (drop i lines) (Refused (i + 1) reason)
  refused-here reason said = finds-here (Some reason) _ said (ap (λ (n : ℕ). Refused (n + 1) reason) (sym long))

  pub dishonest-here : refusal_at v (i + 1) ≡ None → (IsHonestLine case tree line → ⊥) → Finds case (take i lines) tree (drop i lines) (Dishonest (i + 1))
  dishonest-here said not_honest = finds-here None _ said (inr (not_honest, ap (λ (n : ℕ). Dishonest (n + 1)) (sym long)))

  pub on-here : (next : Tree) (found : Audit) → refusal_at v (i + 1) ≡ None → IsHonestLine case tree line → tree_after tree line ≡ next
      → Finds case (take (i + 1) lines) next (drop (i + 1) lines) found → Finds case (take i lines) tree (drop i lines) found
  on-here next found said honest after on = finds-here None found said
      (inl (
        honest,
        subst (λ (t : Tree). Finds case (take i lines ++ line ∷ []) t rest found) (sym after)
            (subst (λ (xs : List LogLine). Finds case xs next rest found) (take_more lines i line low ∙ ap (λ (l : LogLine). take i lines ++ l ∷ []) (sym is)) on),
      ))
