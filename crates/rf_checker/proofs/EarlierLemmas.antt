-- An earlier nogood line among the lines, and what it takes out of a box.
use Rattle.std.proofs.Common.{◌≡◌, ℕ, zero, suc, ◌-◌, ◌<◌, ◌≤◌, List, [], ◌∷◌, ◌++◌, length, Bool, true, false, not, ◌&&◌, refl, sym, ◌∙◌, ap, subst, arith, inl, inr, take, drop, get_or}
use Rattle.std.proofs.Common.{set, drop-cons, get_or-set_same, get_or-set_other, Option, Some, None, is_some, if◌then◌else◌, slice_index_or, eq-eqb, ne_eqb, true≢false, take-append-drop}
use Rattle.std.specs.Option.{option_to_list}
use Rattle.std.specs.List.{filter}
use Rattle.std.proofs.lemmas.Bool.{cases_Bool, cases_eq}
use Rattle.std.proofs.lemmas.List.{get_or_default}
use Rattle.std.proofs.lemmas.List.Elements.{filter-append}
use mathlib.Core.Path.{fun_ext}
use Rattle.rf_exclusions.specs.declared.span.Span.{Span}
use Rattle.rf_exclusions.specs.Spans.{has_in}
use Rattle.rf_log.specs.declared.cond.Cond.{Cond}
use Rattle.rf_log.specs.declared.hint.Hint.{Hint}
use Rattle.rf_log.specs.declared.line.LogLine.{LogLine}
use Rattle.rf_log.specs.declared.line.LogLine.TheVariants.{Nogood, Branch, Up}
use Rattle.rf_log.specs.Case.{Case, count_of}
use Rattle.rf_log.specs.Box.{Box, is_met, between, holds_throughout, without, nothing}
use Rattle.rf_log.specs.Hints.{conds_in, nogood_at, left_open}
use Rattle.rf_checker.specs.Boxes.{box_in, IsBelow, IsBoxFor}
use Rattle.rf_checker.specs.Lines.{single}
use mathlib.Core.Bool.{not-not}

and_true : (b : Bool) → b ≡ (b && true)
and_true true = refl
and_true false = refl

pub nogood_zero : (lines : List LogLine) (n : ℕ) → n ≡ 0 → None ≡ nogood_at lines n
nogood_zero lines n is = subst (λ (m : ℕ). None ≡ nogood_at lines m) (sym is) refl

pub nogood_past : (lines : List LogLine) (n : ℕ) → length lines < n → None ≡ nogood_at lines n
nogood_past lines zero past = refl
nogood_past [] (suc n) past = refl
nogood_past (line ∷ lines) (suc zero) past = absurd (omega arith)
nogood_past (line ∷ lines) (suc (suc n)) past = nogood_past lines (suc n) (omega arith)

nogood_here : (lines : List LogLine) (n : ℕ) (d : LogLine) → n < length lines → nogood_at lines (suc n) ≡ conds_in (get_or lines n d)
nogood_here [] n d low = absurd (omega arith)
nogood_here (line ∷ lines) zero d low = refl
nogood_here (line ∷ lines) (suc n) d low = nogood_here lines n d (omega arith)

pub nogood_is : (lines : List LogLine) (n : ℕ) (line : LogLine) → (n ≡ 0 → ⊥) → n ≤ length lines → line ≡ get_or lines (n - 1) line → nogood_at lines n ≡ conds_in line
nogood_is lines n line some low is =
    let suc_is : suc (n - 1) ≡ n = omega arith in
    subst (λ (m : ℕ). nogood_at lines m ≡ conds_in (get_or lines (n - 1) line)) suc_is (nogood_here lines (n - 1) line (omega arith)) ∙ ap conds_in (sym is)

-- two conditions that are left open
pub two_open : (case : Case) (box : Box) (conds : List Cond) (i : ℕ) (d : Cond) (found : Option Cond) → i < length conds
    → left_open case box (take i conds) ≡ option_to_list found → is_some found ≡ true → holds_throughout case box (get_or conds i d) ≡ false
    → None ≡ single (left_open case box conds)
two_open case box conds i d None low before some fails = cc
two_open case box conds i d (Some first) low before some fails =
    let p : Cond → Bool = λ cond. not (holds_throughout case box cond) in
    let rest : filter p (drop i conds) ≡ get_or conds i d ∷ filter p (drop (suc i) conds) =
    ap (filter p) (drop-cons conds i d low) ∙ ap (λ (b : Bool). if not b then get_or conds i d ∷ filter p (drop (suc i) conds) else filter p (drop (suc i) conds)) fails in
    let whole : left_open case box conds ≡ first ∷ get_or conds i d ∷ filter p (drop (suc i) conds) =
    ap (filter p) (sym (take-append-drop i conds)) ∙ (filter-append p (take i conds) (drop i conds)
    ∙ (ap (λ (xs : List Cond). xs ++ filter p (drop i conds)) before ∙ ap (λ (xs : List Cond). first ∷ xs) rest)) in
    sym (ap single whole)

-- the other condition, which just the other indices meet
abbrev pub flipped : Cond → Cond
flipped cond = record cond { inside = not cond.inside }

flipped_met : (cond : Cond) (k : ℕ) → is_met (flipped cond) k ≡ not (is_met cond k)
flipped_met cond k = elim (cases_Bool cond.inside) [
  | inl inside ↦ rw inside refl
  | inr outside ↦ rw outside (sym (not-not (between cond.lo cond.hi k)))
]

pub met_gone : (sets : List (List Span)) (cond : Cond) (new d : List Span) → cond.carrier < length sets
    → ((k : ℕ) → has_in new k ≡ (has_in (slice_index_or sets cond.carrier d) k && is_met (flipped cond) k))
    → box_in (set sets cond.carrier new) ≡ without (box_in sets) cond.carrier (is_met cond)
met_gone sets cond new d low is = fun_ext (λ c. fun_ext (λ k. elim (cases_eq c cond.carrier) [
  | inl same ↦
      let here : has_in (slice_index_or (set sets cond.carrier new) c []) k ≡ has_in new k =
      ap (λ (s : List Span). has_in s k) (ap (λ (j : ℕ). slice_index_or (set sets cond.carrier new) j []) same ∙ get_or-set_same sets cond.carrier new [] low) in
      let old : has_in (slice_index_or sets cond.carrier d) k ≡ box_in sets c k =
      ap (λ (s : List Span). has_in s k) (get_or_default sets cond.carrier d [] low ∙ ap (λ (j : ℕ). slice_index_or sets j []) (sym same)) in
      here ∙ (is k ∙ (ap (λ (b : Bool). b && is_met (flipped cond) k) old
      ∙ (ap (λ (b : Bool). box_in sets c k && b) (flipped_met cond k)
      ∙ ap (λ (b : Bool). box_in sets c k && not (b && is_met cond k)) (sym (eq-eqb c cond.carrier same)))))
  | inr other ↦
      ap (λ (s : List Span). has_in s k) (get_or-set_other sets cond.carrier c new [] other)
      ∙ (and_true (box_in sets c k) ∙ ap (λ (b : Bool). box_in sets c k && not (b && is_met cond k)) (sym (ne_eqb c cond.carrier other)))
]))

pub empty_box : (case : Case) (sets : List (List Span)) → length sets ≡ length case.carriers → box_in sets ≡ nothing → IsBoxFor case sets
empty_box case sets full none = record { full = full; below = λ c k here. absurd (true≢false (sym here ∙ ap (λ (b : Box). b c k) none)) }

pub below_at : (case : Case) (sets : List (List Span)) (c : ℕ) (d : List Span) (n : ℕ) → IsBoxFor case sets → c < length case.carriers
    → n ≡ count_of case c → IsBelow n (slice_index_or sets c d)
below_at case sets c d n is_box low is =
    let same : slice_index_or sets c [] ≡ slice_index_or sets c d = get_or_default sets c [] d (omega (arith, is_box.full)) in
    subst (λ (m : ℕ). IsBelow m (slice_index_or sets c d)) (sym is) (subst (λ (s : List Span). IsBelow (count_of case c) s) same (is_box.below c))

pub conds_none : (line : LogLine) → ((conds : List Cond) (hints : List Hint) → line ≡ Nogood conds hints → ⊥) → None ≡ conds_in line
conds_none (Nogood conds hints) other = absurd (other conds hints refl)
conds_none (Branch cut carrier at) other = refl
conds_none (Up line) other = refl
