-- Hints of any kind: applied in order from the box of all decisions, they have effects until a set is empty.
use Rattle.std.proofs.Common.{◌≡◌, ℕ, ◌==◌, List, [], ◌∷◌, ◌++◌, true, false, not, ◌&&◌, refl, sym, ◌∙◌, ap, subst, ◌⊎◌, inl, inr, slice_index, take, append_assoc, Option, Some}
use Rattle.std.proofs.Common.{None, nat_lt, true≢false, eqb-true, append-nil}
use Rattle.std.proofs.lemmas.Bool.{cases_Bool, and_parts, and_from, not_from_false}
use Rattle.rf_log.specs.declared.cond.Cond.{Cond}
use Rattle.rf_log.specs.declared.hint.Hint.{Hint}
use Rattle.rf_log.specs.declared.hint.Hint.TheVariants.{Earlier, Ban, Rule}
use Rattle.rf_terms.specs.Kinds.{roles_of}
use Rattle.rf_log.specs.Case.{Case, counts_of, count_of}
use Rattle.rf_log.specs.Box.{Box, between, is_met, is_met_by, box_of, is_dead, without, nothing}
use Rattle.rf_log.specs.Hints.{Line, line_at, left_open, by_open, by_line, is_barred, is_ruled_out, effect_of, after_hints_of, is_dead_after}
use Rattle.rf_search.proofs.Narrow.{Lies, Lives, keeps-living, lies-on, effect-narrows}
use Rattle.rf_domain.specs.Sets as sets
use Rattle.rf_trail.specs.declared.entry.Entry.{Entry}
use Rattle.rf_trail.specs.Trace.{has_of}
use Rattle.rf_propagate.specs.Laws.{IsJustified}
use Rattle.rf_search.specs.State.{Agrees}
use Rattle.rf_search.proofs.Steps.{effect-agrees}
use Rattle.rf_search.specs.Paths.{Grown, start, decide, because, hint_in, hints_of}
use Rattle.rf_search.proofs.Sizes.{lives_from, decided_leaves}
use Rattle.rf_search.proofs.Replaying.{living_not_dead}
use Rattle.rf_search.proofs.WholeTrail.{cutting, same_cut, after_push, hints_decided, same_lies, head_and}
use mathlib.Core.Bool.{and-true}
use Rattle.rf_base.proofs.OptionLaws.{some_when}
use Rattle.rf_propagate.proofs.LineLaws.{size_is}

open-shrinks : (box next : Box) (conds : List Cond) → by_open box conds ≡ Some next → Lies next box
open-shrinks box next [] e =
    let is : nothing ≡ next = cc in
    subst (λ (b : Box). Lies b box) is (record { each = λ c k h. absurd (true≢false (sym h)) })
open-shrinks box next (cond ∷ []) e =
    let is : without box cond.carrier (is_met cond) ≡ next = cc in
    subst (λ (b : Box). Lies b box) is (record { each = λ c k h. (and_parts (box c k) _ h).0 })
open-shrinks box next (one ∷ two ∷ rest) e = cc

line-shrinks : (case : Case) (box next : Box) (found : Option (List Cond)) → by_line case box found ≡ Some next → Lies next box
line-shrinks case box next None e = cc
line-shrinks case box next (Some conds) e = open-shrinks box next (left_open case box conds) e

pub effect-shrinks : (case : Case) (found : ℕ → Option (List Cond)) (box next : Box) (hint : Hint) → effect_of case found box hint ≡ Some next → Lies next box
effect-shrinks case found box next (Earlier line) e = line-shrinks case box next (found line) e
effect-shrinks case found box next (Ban carrier lo hi) e =
    let parts = some_when (is_barred case carrier lo hi) _ next e in
    subst (λ (b : Box). Lies b box) parts.1 (record { each = λ c k h. (and_parts (box c k) _ h).0 })
effect-shrinks case found box next (Rule kind roles target lo hi) e =
    let c = slice_index roles target in
    let parts = some_when (is_ruled_out case box kind (take (roles_of kind) roles) c lo hi) _ next e in
    subst (λ (b : Box). Lies b box) parts.1 (record { each = λ c k h. (and_parts (box c k) _ h).0 })

-- one more entry: where no set is empty yet, its hint has an effect, within what the trail leaves
pub step : (case : Case) (lines : List Line) (found : ℕ → Option (List Cond)) (es : List Entry) (e : Entry) (small : Box) → Agrees (line_at lines) found
    → (why : IsJustified case lines es e) → Lies small (has_of (counts_of case) es) → Lives case small
    → (after : Box) × (effect_of case found small why.hint ≡ Some after) × Lies after (has_of (counts_of case) (e ∷ es)) × Lies after small
step case lines found es e small agrees why lies lives =
    let box = has_of (counts_of case) es in
    let narrow = effect-narrows case found small box why.after why.hint lies (keeps-living case small box lies lives)
    (effect-agrees case (line_at lines) found box why.after why.hint agrees why.works) in
    let within : Lies narrow.after small = effect-shrinks case found small narrow.after why.hint narrow.works in
    let cut : Lies narrow.after (cutting box e) = record {
      each = λ c k h.
          and_from (box c k) _ (lies.each c k (within.each c k h)) (spared c k (narrow.lies.each c k h));
    } in
    (narrow.after, narrow.works, subst (λ (b : Box). Lies narrow.after b) (sym (same_cut box e)) cut, within)
  where
    spared : (c k : ℕ) → why.after c k ≡ true → not ((c == e.carrier) && between e.lo e.hi k) ≡ true
    spared c k here = elim (cases_Bool ((c == e.carrier) && between e.lo e.hi k)) [
      | inr outside ↦ not_from_false _ outside
      | inl inside ↦
          let parts = and_parts (c == e.carrier) _ inside in
          let at : why.after e.carrier k ≡ true = subst (λ (d : ℕ). why.after d k ≡ true) (eqb-true c e.carrier parts.0) here in
          absurd (true≢false (sym at ∙ why.gone k parts.1))
    ]

-- after the first hints a set is empty
pub record IsEnded (case : Case) (found : ℕ → Option (List Cond)) (b : Box) (hints : List Hint) : Type 0 where
  pub first : List Hint
  pub rest : List Hint
  pub parts : hints ≡ first ++ rest
  pub dead : is_dead_after case (after_hints_of case found b first) ≡ true

-- all hints have an effect, and no set is empty
pub record IsOn (case : Case) (found : ℕ → Option (List Cond)) (b : Box) (es : List Entry) : Type 0 where
  pub box : Box
  pub works : after_hints_of case found b (hints_of es) ≡ Some box
  pub lies : Lies box (has_of (counts_of case) es)
  pub start : Lies box b
  pub living : is_dead case box ≡ false

pub one_more : (case : Case) (found : ℕ → Option (List Cond)) (b : Box) (hints : List Hint) (hint : Hint) → IsEnded case found b hints → IsEnded case found b (hints ++ hint ∷ [])
one_more case found b hints hint ended = record {
  first = ended.first;
  rest = ended.rest ++ hint ∷ [];
  parts = ap (λ (hs : List Hint). hs ++ hint ∷ []) ended.parts ∙ append_assoc ended.first ended.rest (hint ∷ []);
  dead = ended.dead;
}

pub reach : (case : Case) (lines : List Line) (found : ℕ → Option (List Cond)) (b : Box) {path : List Cond} {es : List Entry} → Agrees (line_at lines) found
    → Grown case lines path es → Lies b (box_of case path) → IsEnded case found b (hints_of es) ⊎ IsOn case found b es
reach case lines found b agrees start below = elim (cases_Bool (is_dead case b)) [
  | inl dead ↦ inl (record { first = []; rest = []; parts = refl; dead = dead })
  | inr living ↦ inr (record {
    box = b;
    works = refl;
    start = same_lies refl;
    living = living;
    lies = record { each = λ c k h. ap (nat_lt k) (size_is case c) ∙ sym (and-true (nat_lt k (count_of case c))) ∙ below.each c k h };
  })
]
reach case lines found b agrees (decide {path} {es} {cond} grown ordered known) below =
    let n = sets.size_of (counts_of case) cond.carrier in
    let same = hints_decided (λ d. true) cond n es in
    let below' : Lies b (box_of case path) = record { each = λ c k h. (and_parts (box_of case path c k) _ (sym (head_and c k cond path case) ∙ below.each c k h)).0 } in
    elim (reach case lines found b agrees grown below') [
      | inl ended ↦ inl (subst (λ (hs : List Hint). IsEnded case found b hs) (sym same) ended)
      | inr on ↦ inr (record {
        box = on.box;
        works = ap (after_hints_of case found b) same ∙ on.works;
        start = on.start;
        living = on.living;
        lies = record {
          each = λ c k h. decided_leaves (counts_of case) es cond ordered known c k
              ∙ and_from (has_of (counts_of case) es c k) (is_met_by c k cond) (on.lies.each c k h)
              (and_parts (box_of case path c k) _ (sym (head_and c k cond path case) ∙ below.each c k (on.start.each c k h))).1;
        };
      })
    ]
reach case lines found b agrees (because {path} {es} {e} grown why) below =
    let same : hints_of (e ∷ es) ≡ hints_of es ++ why.hint ∷ [] = ap (λ h. hints_of es ++ hint_in h) why.is in
    elim (reach case lines found b agrees grown below) [
      | inl ended ↦ inl (subst (λ (hs : List Hint). IsEnded case found b hs) (sym same) (one_more case found b (hints_of es) why.hint ended))
      | inr on ↦
          let next = step case lines found es e on.box agrees why on.lies (lives_from case on.box on.living) in
          let works : after_hints_of case found b (hints_of (e ∷ es)) ≡ Some next.0 =
          ap (after_hints_of case found b) same ∙ after_push case found b on.box next.0 (hints_of es) why.hint on.works next.1 in
          elim (cases_Bool (is_dead case next.0)) [
            | inl dead ↦ inl (record { first = hints_of (e ∷ es); rest = []; parts = sym (append-nil (hints_of (e ∷ es))); dead = ap (is_dead_after case) works ∙ dead })
            | inr living ↦ inr (record { box = next.0; works = works; lies = next.2; start = lies-on next.3 on.start; living = living })
          ]
    ]

-- a box within a dead one is dead
pub dead_within : (case : Case) (small box : Box) → Lies small box → is_dead case box ≡ true → is_dead case small ≡ false → ⊥
dead_within case small box lies dead living =
    true≢false (sym dead ∙ living_not_dead case box (record { each = λ c low. let r = (lives_from case small living).each c low in (r.0, r.1, lies.each c r.0 r.2) }))

pub ended : (case : Case) (lines : List Line) (found : ℕ → Option (List Cond)) (path : List Cond) (es : List Entry) → Agrees (line_at lines) found
    → Grown case lines path es → is_dead case (has_of (counts_of case) es) ≡ true → IsEnded case found (box_of case path) (hints_of es)
ended case lines found path es agrees grown dead = elim (reach case lines found (box_of case path) agrees grown (same_lies refl)) [
  | inl e ↦ e
  | inr on ↦ absurd (dead_within case on.box (has_of (counts_of case) es) on.lies dead on.living)
]
