-- The walk leaves every plan on its path or ahead of it, until the tree is closed.
use Rattle.std.proofs.Common.{◌≡◌, ℕ, zero, suc, ◌+◌, ◌<◌, ◌==◌, List, [], ◌∷◌, ◌++◌, length, Bool, true, false, not, refl, sym, ◌∙◌, ap, subst, ◌⊎◌, inl, inr, slice_index}
use Rattle.std.specs.Prelude.{Option, Some, None, if◌then◌else◌}
use Rattle.std.specs.List.{list_all}
use Rattle.std.proofs.lemmas.Bool.{cases_Bool, and_parts, and_from, eqb-true, true≢false}
use Rattle.rf_log.specs.declared.cond.Cond.{Cond}
use Rattle.rf_log.specs.declared.hint.Hint.{Hint}
use Rattle.rf_log.specs.declared.line.LogLine.{LogLine}
use Rattle.rf_log.specs.declared.line.LogLine.TheVariants.{Nogood, Branch, Up}
use Rattle.rf_log.specs.declared.verdict.Cause.{Cause}
use Rattle.rf_log.specs.declared.verdict.Verdict.{Verdict}
use Rattle.rf_log.specs.declared.verdict.Verdict.TheVariants as verdict
use Rattle.rf_log.specs.declared.line.Cut.{Cut}
use Rattle.rf_log.specs.declared.line.Cut.TheVariants.{Fix, Split}
use Rattle.rf_log.specs.Case.{Case, IsPlan}
use Rattle.rf_log.specs.Box.{Box, is_met, is_met_by, box_of, holds_throughout, between}
use Rattle.rf_log.specs.Hints.{conds_in, nogood_at, box_after, is_dead_after}
use Rattle.rf_log.specs.Walk.{Tree, cause_of, knows_names, fits_indices, finds_lines, hints_work, ends_empty, follows_path, all_hold, left_side, right_side, turned, grown, walk}
use Rattle.rf_log.proofs.Kept.{InBox, HoldsNoPlan, AreRight, in_box_of, throughout_met, hints-keep, living}
use Rattle.rf_base.proofs.BoolLaws.{implies}
use Rattle.rf_log.proofs.WalkLaws.{nogood-push, passed}

abbrev pub meets : List ℕ → Cond → Bool
meets plan cond = is_met cond (slice_index plan cond.carrier)

-- the first decision that the plan doesn't meet is a left side, with the last decision first
abbrev pub IsAhead : List ℕ → List Cond → Type 0
IsAhead plan [] = ⊥
IsAhead plan (cond ∷ path) = IsAhead plan path ⊎ ((list_all (meets plan) path ≡ true) × (cond.inside ≡ true) × (meets plan cond ≡ false))

-- the plan meets the whole path, or is ahead of it
abbrev pub IsReached : List ℕ → Tree → Type 0
IsReached plan None = ⊥
IsReached plan (Some path) = (list_all (meets plan) path ≡ true) ⊎ IsAhead plan path

turned_met : (cond : Cond) (plan : List ℕ) → cond.inside ≡ true → meets plan cond ≡ false → meets plan (right_side cond) ≡ true
turned_met cond plan left unmet =
    let k = slice_index plan cond.carrier in
    let outside : between cond.lo cond.hi k ≡ false =
    subst (λ (b : Bool). (if b then between cond.lo cond.hi k else not (between cond.lo cond.hi k)) ≡ false) left unmet in
    ap not outside

-- a plan that is ahead is reached by the turn
turn-reaches : (plan : List ℕ) (path : List Cond) → IsAhead plan path → IsReached plan (turned path)
turn-reaches plan [] ahead = ahead
turn-reaches plan (cond ∷ path) ahead = elim (cases_Bool cond.inside) [
  | inl left ↦ subst (λ (b : Bool). IsReached plan (if b then Some (right_side cond ∷ path) else turned path)) (sym left) (elim ahead [
    | inl before ↦ inr (inl before)
    | inr here ↦ inl (and_from (meets plan (right_side cond)) _ (turned_met cond plan here.1 here.2) here.0)
  ])
  | inr right ↦ subst (λ (b : Bool). IsReached plan (if b then Some (right_side cond ∷ path) else turned path)) (sym right) (elim ahead [
    | inl before ↦ turn-reaches plan path before
    | inr here ↦ absurd (true≢false (sym here.1 ∙ right))
  ])
]

branch-reaches : (plan : List ℕ) (path : List Cond) (cond : Cond) → cond.inside ≡ true → IsReached plan (Some path) → IsReached plan (Some (cond ∷ path))
branch-reaches plan path cond left reached = elim reached [
  | inr ahead ↦ inr (inl ahead)
  | inl on ↦ elim (cases_Bool (meets plan cond)) [
    | inl met ↦ inl (and_from (meets plan cond) _ met on)
    | inr unmet ↦ inr (inr (on, left, unmet))
  ]
]

is_left : (cut : Cut) (c k : ℕ) → (left_side cut c k).inside ≡ true
is_left Fix c k = refl
is_left Split c k = refl

-- what meets the decisions of a path stands in its box
met_by : (plan : List ℕ) (conds : List Cond) (c : ℕ) → list_all (meets plan) conds ≡ true → list_all (is_met_by c (slice_index plan c)) conds ≡ true
met_by plan [] c all = refl
met_by plan (cond ∷ conds) c all =
    let parts = and_parts (meets plan cond) _ all in
    and_from (is_met_by c (slice_index plan c) cond) _
    (implies (cond.carrier == c) _ (λ e. subst (λ (d : ℕ). is_met cond (slice_index plan d) ≡ true) (eqb-true _ _ e) parts.0))
    (met_by plan conds c parts.1)

pub in_path_box : (case : Case) (plan : List ℕ) → IsPlan case plan → (conds : List Cond) → list_all (meets plan) conds ≡ true → InBox (box_of case conds) plan
in_path_box case plan good conds all = in_box_of case plan good conds (λ c low. met_by plan conds c all)

all_throughout : (case : Case) (plan : List ℕ) → IsPlan case plan → (box : Box) → InBox box plan → (conds : List Cond)
    → list_all (holds_throughout case box) conds ≡ true → (c : ℕ) → c < length plan → list_all (is_met_by c (slice_index plan c)) conds ≡ true
all_throughout case plan good box here [] all c low = refl
all_throughout case plan good box here (cond ∷ conds) all c low =
    let parts = and_parts (holds_throughout case box cond) _ all in
    and_from (is_met_by c (slice_index plan c) cond) _ (throughout_met case plan good box cond c here low parts.0) (all_throughout case plan good box here conds parts.1 c low)

-- no plan meets a path in whose box an earlier nogood holds
pub path-excluded : (case : Case) (found : Option (List Cond)) (path : List Cond) → ((conds : List Cond) → found ≡ Some conds → HoldsNoPlan case conds)
    → all_hold case (box_of case path) found ≡ true → (plan : List ℕ) → IsPlan case plan → list_all (meets plan) path ≡ true → ⊥
path-excluded case None path right all plan good on = true≢false (sym all)
path-excluded case (Some conds) path right all plan good on = right conds refl plan good (in_box_of case plan good conds
    (all_throughout case plan good (box_of case path) (in_path_box case plan good path on) conds all))

-- a valid nogood line says that no plan meets its conditions
pub nogood-right : (case : Case) (lines : List LogLine) (conds : List Cond) (hints : List Hint) → AreRight case lines
    → is_dead_after case (box_after case lines conds hints) ≡ true → HoldsNoPlan case conds
nogood-right case lines conds hints right dead plan good here =
    let P : Option Box → Type 0 = λ o. box_after case lines conds hints ≡ o → is_dead_after case o ≡ true → ⊥ in
    let all : (o : Option Box) → P o = λ o. elim o as P [
      | None ↦ λ e d. true≢false (sym d)
      | Some last ↦ λ e d. living case plan good last (hints-keep case plan good lines (box_of case conds) last hints right here e) d
    ] in
    all (box_after case lines conds hints) refl dead

pub record IsPassed (case : Case) (lines : List LogLine) (path : List Cond) (line : LogLine) : Type 0 where
  pub empty : ends_empty case lines line ≡ true
  pub follows : follows_path case lines path line ≡ true

line-passed : (case : Case) (lines : List LogLine) (path : List Cond) (line : LogLine) → cause_of case lines (Some path) line ≡ None → IsPassed case lines path line
line-passed case lines path line none =
    let a = passed (knows_names case line) _ _ none in
    let b = passed (fits_indices case line) _ _ a.1 in
    let c = passed (finds_lines lines line) _ _ b.1 in
    let d = passed (hints_work case lines line) _ _ c.1 in
    let e = passed (ends_empty case lines line) _ _ d.1 in
    let f = passed (follows_path case lines path line) _ _ e.1 in
    record { empty = e.0; follows = f.0 }

line-right : (case : Case) (lines : List LogLine) (line : LogLine) (conds : List Cond) → AreRight case lines
    → ends_empty case lines line ≡ true → conds_in line ≡ Some conds → HoldsNoPlan case conds
line-right case lines (Nogood cs hs) conds right empty is =
    let same : cs ≡ conds = cc in
    subst (λ (xs : List Cond). HoldsNoPlan case xs) same (nogood-right case lines cs hs right empty)
line-right case lines (Branch cut carrier at) conds right empty is = cc
line-right case lines (Up line) conds right empty is = cc

pub right-push : (case : Case) (lines : List LogLine) (line : LogLine) → AreRight case lines → ends_empty case lines line ≡ true → AreRight case (lines ++ line ∷ [])
right-push case lines line right empty n conds e = elim (nogood-push lines line n conds e) [
  | inl before ↦ right n conds before
  | inr here ↦ line-right case lines line conds right empty here
]

grown-reaches : (case : Case) (lines : List LogLine) (path : List Cond) (line : LogLine) (plan : List ℕ) → IsPlan case plan → AreRight case lines
    → follows_path case lines path line ≡ true → IsReached plan (Some path) → IsReached plan (grown path line)
grown-reaches case lines path (Nogood conds hints) plan good right follows reached = reached
grown-reaches case lines path (Branch cut carrier at) plan good right follows reached =
    branch-reaches plan path (left_side cut carrier at) (is_left cut carrier at) reached
grown-reaches case lines path (Up line) plan good right follows reached = elim reached [
  | inl on ↦ absurd (path-excluded case (nogood_at lines line) path (right line) follows plan good on)
  | inr ahead ↦ turn-reaches plan path ahead
]

-- where the walk goes on from lines that are right to Closed, the plan was not reached
pub walk-sound : (case : Case) (lines : List LogLine) (tree : Tree) (rest : List LogLine) (plan : List ℕ) → IsPlan case plan
    → AreRight case lines → IsReached plan tree → walk case lines tree rest ≡ verdict.Closed → ⊥
walk-sound case lines None rest plan good right reached closed = reached
walk-sound case lines (Some path) [] plan good right reached closed = cc
walk-sound case lines (Some path) (line ∷ rest) plan good right reached closed =
    let P : Option Cause → Type 0 = λ o. cause_of case lines (Some path) line ≡ o
    → (elim o as (λ _. Verdict) [ None ↦ walk case (lines ++ line ∷ []) (grown path line) rest | Some reason ↦ verdict.Refused (length lines + 1) reason ]) ≡ verdict.Closed → ⊥ in
    let all : (o : Option Cause) → P o = λ o. elim o as P [
      | None ↦ λ none e.
          let is = line-passed case lines path line none in
          walk-sound case (lines ++ line ∷ []) (grown path line) rest plan good (right-push case lines line right is.empty)
          (grown-reaches case lines path line plan good right is.follows reached) e
      | Some reason ↦ λ some e. cc
    ] in
    all (cause_of case lines (Some path) line) refl closed

pub nothing-right : (case : Case) → AreRight case []
nothing-right case zero conds e = cc
nothing-right case (suc n) conds e = cc
