-- One line more of the walk, and what it leaves true of the lines and the path.
use Rattle.std.proofs.Common.{◌≡◌, ℕ, suc, ◌+◌, ◌<◌, List, [], ◌∷◌, ◌++◌, length, Bool, true, false, not, refl, sym, ◌∙◌, ap, subst, arith, inl, inr, take, drop, drop-cons, get_or, reverse}
use Rattle.std.specs.Prelude.{Option, Some, None, if◌then◌else◌}
use Rattle.std.specs.List.{All, list_all}
use Rattle.std.proofs.lemmas.Bool.{cases_Bool, and_parts, ltb-true, leb-true}
use Rattle.std.proofs.lemmas.List.{length-take-le, take_more, reverse-append}
use Rattle.std.proofs.lemmas.List.Elements.{All-nil, All-cons, All-append}
use Rattle.rf_log.specs.declared.cond.Cond.{Cond}
use Rattle.rf_log.specs.declared.line.Cut.{Cut}
use Rattle.rf_log.specs.declared.line.Cut.TheVariants.{Fix, Split}
use Rattle.rf_log.specs.declared.line.LogLine.{LogLine}
use Rattle.rf_log.specs.declared.line.LogLine.TheVariants.{Nogood, Branch, Up}
use Rattle.rf_log.specs.declared.verdict.Cause.{Cause}
use Rattle.rf_log.specs.declared.verdict.Verdict.{Verdict}
use Rattle.rf_log.specs.declared.verdict.Verdict.TheVariants as verdict
use Rattle.rf_log.specs.Case.{Case, carrier_of}
use Rattle.rf_log.specs.Hints.{conds_in, nogood_at}
use Rattle.rf_log.specs.Walk.{Tree, walk, cause_of, tree_after, turned, left_side, right_side, knows_names, knows_cond, fits_indices, fits_cond}
use Rattle.rf_checker.specs.Boxes.{Fits}
use Rattle.rf_checker.specs.Lines.{LinesFit, TreeFits}
use Rattle.rf_log.proofs.WalkLaws.{nogood-push, passed}

pub walk_step : (case : Case) (lines : List LogLine) (i : ℕ) (d : LogLine) (path : List Cond) (next : Tree) (v : Verdict) → i < length lines
    → cause_of case (take i lines) (Some path) (get_or lines i d) ≡ None → tree_after (Some path) (get_or lines i d) ≡ next
    → walk case (take i lines) (Some path) (drop i lines) ≡ v → walk case (take (i + 1) lines) next (drop (i + 1) lines) ≡ v
walk_step case lines i d path next v low none after same =
    let line = get_or lines i d in
    let F : Option Cause → Verdict = λ o. elim o as (λ _. Verdict) [
      | None ↦ walk case (take i lines ++ line ∷ []) (tree_after (Some path) line) (drop (suc i) lines)
      | Some reason ↦ verdict.Refused (length (take i lines) + 1) reason
    ] in
    let opened : walk case (take i lines) (Some path) (drop i lines) ≡ F None =
    ap (λ (xs : List LogLine). walk case (take i lines) (Some path) xs) (drop-cons lines i d low) ∙ ap F none in
    let e : i + 1 ≡ suc i = omega arith in
    ap (λ (xs : List LogLine). walk case xs next (drop (i + 1) lines)) (take_more lines i d low)
    ∙ (ap (λ (n : ℕ). walk case (take i lines ++ line ∷ []) next (drop n lines)) e
    ∙ (ap (λ (t : Tree). walk case (take i lines ++ line ∷ []) t (drop (suc i) lines)) (sym after) ∙ (sym opened ∙ same)))

-- a line that is refused ends the walk
pub walk_refused : (case : Case) (lines : List LogLine) (i : ℕ) (d : LogLine) (tree : Tree) (reason : Cause) (v : Verdict) → i < length lines
    → cause_of case (take i lines) tree (get_or lines i d) ≡ Some reason
    → walk case (take i lines) tree (drop i lines) ≡ v → verdict.Refused (i + 1) reason ≡ v
walk_refused case lines i d tree reason v low some same =
    let line = get_or lines i d in
    let F : Option Cause → Verdict = λ o. elim o as (λ _. Verdict) [
      | None ↦ walk case (take i lines ++ line ∷ []) (tree_after tree line) (drop (suc i) lines)
      | Some why ↦ verdict.Refused (length (take i lines) + 1) why
    ] in
    let opened : walk case (take i lines) tree (drop i lines) ≡ F (Some reason) =
    ap (λ (xs : List LogLine). walk case (take i lines) tree xs) (drop-cons lines i d low) ∙ ap F some in
    let first : length (take i lines) ≡ i = length-take-le i lines (omega arith) in
    ap (λ (n : ℕ). verdict.Refused (n + 1) reason) (sym first) ∙ (sym opened ∙ same)

pub record Passes (case : Case) (line : LogLine) : Type 0 where
  pub known : knows_names case line ≡ true
  pub fit : fits_indices case line ≡ true

pub tests_passed : (case : Case) (lines : List LogLine) (path : List Cond) (line : LogLine) → cause_of case lines (Some path) line ≡ None → Passes case line
tests_passed case lines path line none =
    let a = passed (knows_names case line) _ _ none in
    let b = passed (fits_indices case line) _ _ a.1 in
    record { known = a.0; fit = b.0 }

fits_of : (case : Case) (cond : Cond) → knows_cond case cond ≡ true → fits_cond case cond ≡ true → Fits case cond
fits_of case cond known fit =
    let parts = and_parts _ _ fit in
    record { known = ltb-true _ _ known; rising = leb-true _ _ parts.0; index = ltb-true _ _ parts.1 }

conds_fit : (case : Case) (conds : List Cond) → list_all (knows_cond case) conds ≡ true → list_all (fits_cond case) conds ≡ true → All (Fits case) conds
conds_fit case [] known fit = All-nil (Fits case)
conds_fit case (cond ∷ conds) known fit =
    let k = and_parts (knows_cond case cond) _ known in
    let f = and_parts (fits_cond case cond) _ fit in
    All-cons (Fits case) cond conds (fits_of case cond k.0 f.0) (conds_fit case conds k.1 f.1)

line_fits : (case : Case) (line : LogLine) (conds : List Cond) → Passes case line → conds_in line ≡ Some conds → All (Fits case) conds
line_fits case (Nogood cs hs) conds pass is =
    let same : cs ≡ conds = cc in
    subst (λ (xs : List Cond). All (Fits case) xs) same (conds_fit case cs (and_parts _ _ pass.known).0 (and_parts _ _ pass.fit).0)
line_fits case (Branch cut carrier at) conds pass is = cc
line_fits case (Up line) conds pass is = cc

pub lines_push : (case : Case) (lines : List LogLine) (i : ℕ) (d : LogLine) → i < length lines → LinesFit case (take i lines) → Passes case (get_or lines i d) → LinesFit case (take (i + 1) lines)
lines_push case lines i d low fit pass n conds e =
    elim (nogood-push (take i lines) (get_or lines i d) n conds (ap (λ (xs : List LogLine). nogood_at xs n) (sym (take_more lines i d low)) ∙ e)) [
      | inl before ↦ fit n conds before
      | inr here ↦ line_fits case (get_or lines i d) conds pass here
    ]

turned_fits : (case : Case) (path : List Cond) → All (Fits case) path → TreeFits case (turned path)
turned_fits case [] all = tt
turned_fits case (cond ∷ path) all =
    let here : Fits case cond = all 0 cond (omega arith) in
    let rest : All (Fits case) path = λ k d low. all (suc k) d (omega arith) in
    elim (cases_Bool cond.inside) [
      | inl left ↦ subst (λ (b : Bool). TreeFits case (if b then Some (right_side cond ∷ path) else turned path)) (sym left)
          (All-cons (Fits case) (right_side cond) path (record { known = here.known; rising = here.rising; index = here.index }) rest)
      | inr right ↦ subst (λ (b : Bool). TreeFits case (if b then Some (right_side cond ∷ path) else turned path)) (sym right) (turned_fits case path rest)
    ]

left_fits : (case : Case) (cut : Cut) (c k : ℕ) → c < length case.carriers → k < length (carrier_of case c).freqs → Fits case (left_side cut c k)
left_fits case Fix c k known low = record { known = known; rising = omega arith; index = low }
left_fits case Split c k known low = record { known = known; rising = omega arith; index = low }

pub grown_fits : (case : Case) (path : List Cond) (line : LogLine) → Passes case line → All (Fits case) path → TreeFits case (tree_after (Some path) line)
grown_fits case path (Nogood cs hs) pass all = all
grown_fits case path (Branch cut carrier at) pass all = All-cons (Fits case) (left_side cut carrier at) path (left_fits case cut carrier at (ltb-true _ _ pass.known) (ltb-true _ _ pass.fit)) all
grown_fits case path (Up line) pass all = turned_fits case path all

all_reversed : (P : Cond → Type 0) (xs : List Cond) → All P xs → All P (reverse xs)
all_reversed P [] all = all
all_reversed P (x ∷ xs) all = subst (λ (ys : List Cond). All P ys) (sym (reverse-append (x ∷ []) xs))
    (All-append P (reverse xs) (x ∷ []) (all_reversed P xs (λ k d low. all (suc k) d (omega arith))) (All-cons P x [] (all 0 x (omega arith)) (All-nil P)))

reversed_twice : (xs : List Cond) → reverse (reverse xs) ≡ xs
reversed_twice [] = refl
reversed_twice (x ∷ xs) = ap (λ (ys : List Cond). reverse ys) (reverse-append (x ∷ []) xs) ∙ (reverse-append (reverse xs) (x ∷ []) ∙ ap (λ (ys : List Cond). x ∷ ys) (reversed_twice xs))

pub path_fits : (case : Case) (closed : Bool) (path : List Cond) → closed ≡ false → TreeFits case (if closed then None else Some (reverse path)) → All (Fits case) path
path_fits case closed path still tree =
    let all : All (Fits case) (reverse path) = subst (λ (b : Bool). TreeFits case (if b then None else Some (reverse path))) still tree in
    subst (λ (xs : List Cond). All (Fits case) xs) (reversed_twice path) (all_reversed (Fits case) (reverse path) all)

pub none_of : (o : Option Cause) → ((x : Cause) → o ≡ Some x → ⊥) → o ≡ None
none_of None other = refl
none_of (Some x) other = absurd (other x refl)

pub if_not : (b : Bool) (x y : Tree) → (if b then x else y) ≡ (if not b then y else x)
if_not true x y = refl
if_not false x y = refl
