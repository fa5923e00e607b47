-- A plan that stands in a box stands in the box after each hint, where no plan stands in the box of an earlier nogood.
use Rattle.std.proofs.Common.{◌≡◌, ℕ, ◌<◌, ◌==◌, List, [], ◌∷◌, length, Bool, true, false, not, ◌&&◌, ◌||◌, refl, sym, ◌∙◌, ap, subst, arith, inl, inr, slice_index, map, take}
use Rattle.std.specs.Prelude.{Option, Some, None, if◌then◌else◌, is_some, nat_lt}
use Rattle.std.specs.Option.{unwrap_or}
use Rattle.std.specs.List.{list_all}
use Rattle.std.proofs.lemmas.Bool.{cases_Bool, and_parts, and_from, not_from_false, not-true, eqb-true, ltb-true, lt-ltb, true≢false}
use Rattle.rf_terms.specs.declared.kind.Kind.{Kind}
use Rattle.rf_log.specs.declared.cond.Cond.{Cond}
use Rattle.rf_log.specs.declared.hint.Hint.{Hint}
use Rattle.rf_log.specs.declared.hint.Hint.TheVariants.{Earlier, Ban, Rule}
use Rattle.rf_log.specs.declared.line.LogLine.{LogLine}
use Rattle.rf_terms.specs.Kinds.{roles_of}
use Rattle.rf_log.specs.Case.{Case, IsPlan, count_of, freq_of, margin_of, is_allowed, is_instance, is_broken, breaks}
use Rattle.rf_log.specs.Box.{Box, each_below, between, is_met, is_met_by, box_of, holds_throughout, has_none, only_index, is_dead, without}
use Rattle.rf_log.proofs.CaseLaws.{known_roles}
use Rattle.rf_log.specs.Hints.{nogood_at, left_open, by_open, by_line, is_barred, indices_with, is_ruled_out, effect, after_hints}
use Rattle.rf_base.proofs.BoolLaws.{implies, implied}
use Rattle.rf_base.proofs.OptionLaws.{some_when}
use Rattle.rf_log.proofs.BoxLaws.{each_below-at, each_below-from, only_below-is}

-- the plan's index of each carrier is in the box
abbrev pub InBox : Box → List ℕ → Type 0
InBox box plan = (c : ℕ) → c < length plan → box c (slice_index plan c) ≡ true

abbrev pub HoldsNoPlan : Case → List Cond → Type 0
HoldsNoPlan case conds = (plan : List ℕ) → IsPlan case plan → InBox (box_of case conds) plan → ⊥

-- no plan meets all the conditions of a nogood line among the lines
abbrev pub AreRight : Case → List LogLine → Type 0
AreRight case lines = (n : ℕ) (conds : List Cond) → nogood_at lines n ≡ Some conds → HoldsNoPlan case conds

-- the box without something that is not at this place
spared : (b x y : Bool) → b ≡ true → (x ≡ true → y ≡ false) → (b && not (x && y)) ≡ true
spared b true y h f = and_from b (not y) h (not_from_false y (f refl))
spared b false y h f = and_from b true h refl

module _ (case : Case) (plan : List ℕ) (good : IsPlan case plan) where
  pub throughout_met : (box : Box) (cond : Cond) (c : ℕ) → InBox box plan → c < length plan
      → holds_throughout case box cond ≡ true → is_met_by c (slice_index plan c) cond ≡ true
  throughout_met box cond c here low all = implies (cond.carrier == c) (is_met cond (slice_index plan c)) (λ e.
      let is_c : cond.carrier ≡ c = eqb-true _ _ e in
      let low' : cond.carrier < length plan = omega arith in
      let met : is_met cond (slice_index plan cond.carrier) ≡ true =
      implied (box cond.carrier (slice_index plan cond.carrier)) _
      (each_below-at (count_of case cond.carrier) (λ k. not (box cond.carrier k) || is_met cond k) (slice_index plan cond.carrier) all (good.known cond.carrier low')) (here cond.carrier low') in
      subst (λ (d : ℕ). is_met cond (slice_index plan d) ≡ true) is_c met)

  -- the conditions that are not left open are met by the plan
  pub met_but : (box : Box) (conds : List Cond) (c : ℕ) → InBox box plan → c < length plan
      → list_all (is_met_by c (slice_index plan c)) (left_open case box conds) ≡ true → list_all (is_met_by c (slice_index plan c)) conds ≡ true
  met_but box [] c here low rest_open = refl
  met_but box (cond ∷ conds) c here low rest_open = elim (cases_Bool (holds_throughout case box cond)) [
    | inl all ↦
        let rest : list_all (is_met_by c (slice_index plan c)) (left_open case box conds) ≡ true =
        subst (λ (b : Bool). list_all (is_met_by c (slice_index plan c)) (if not b then cond ∷ left_open case box conds else left_open case box conds) ≡ true) all rest_open in
        and_from (is_met_by c (slice_index plan c) cond) _ (throughout_met box cond c here low all) (met_but box conds c here low rest)
    | inr some ↦
        let both : list_all (is_met_by c (slice_index plan c)) (cond ∷ left_open case box conds) ≡ true =
        subst (λ (b : Bool). list_all (is_met_by c (slice_index plan c)) (if not b then cond ∷ left_open case box conds else left_open case box conds) ≡ true) some rest_open in
        let parts = and_parts (is_met_by c (slice_index plan c) cond) _ both in
        and_from (is_met_by c (slice_index plan c) cond) _ parts.0 (met_but box conds c here low parts.1)
  ]

  pub in_box_of : (conds : List Cond) → ((c : ℕ) → c < length plan → list_all (is_met_by c (slice_index plan c)) conds ≡ true) → InBox (box_of case conds) plan
  in_box_of conds met c low = and_from (nat_lt (slice_index plan c) (count_of case c)) _ (lt-ltb _ _ (good.known c low)) (met c low)

  open-keeps : (box next : Box) (conds rest_open : List Cond) → InBox box plan → HoldsNoPlan case conds
      → left_open case box conds ≡ rest_open → by_open box rest_open ≡ Some next → InBox next plan
  open-keeps box next conds [] here right is e = absurd (right plan good (in_box_of conds (λ c low.
      met_but box conds c here low (ap (list_all (is_met_by c (slice_index plan c))) is))))
  open-keeps box next conds (cond ∷ []) here right is e =
      let is_next : without box cond.carrier (is_met cond) ≡ next = cc in
      subst (λ (b : Box). InBox b plan) is_next (λ c low. spared (box c (slice_index plan c)) (c == cond.carrier) (is_met cond (slice_index plan c)) (here c low) (λ same.
      elim (cases_Bool (is_met cond (slice_index plan c))) [
        | inr unmet ↦ unmet
        | inl met ↦ absurd (right plan good (in_box_of conds (λ d low'.
            met_but box conds d here low' (ap (list_all (is_met_by d (slice_index plan d))) is
            ∙ and_from (is_met_by d (slice_index plan d) cond) true (implies (cond.carrier == d) _ (λ e'.
            let d_is : c ≡ d = eqb-true c cond.carrier same ∙ eqb-true cond.carrier d e' in
            subst (λ (i : ℕ). is_met cond (slice_index plan i) ≡ true) d_is met)) refl))))
      ]))
  open-keeps box next conds (first ∷ second ∷ rest) here right is e = cc

  line-keeps : (box next : Box) (found : Option (List Cond)) → InBox box plan → ((conds : List Cond) → found ≡ Some conds → HoldsNoPlan case conds)
      → by_line case box found ≡ Some next → InBox next plan
  line-keeps box next None here right e = cc
  line-keeps box next (Some conds) here right e = open-keeps box next conds (left_open case box conds) here (right conds refl) refl e

  -- the one index of a carrier is the plan's
  one_is : (box : Box) (c : ℕ) → InBox box plan → c < length plan → is_some (only_index case box c) ≡ true
      → unwrap_or (only_index case box c) 0 ≡ slice_index plan c
  one_is box c here low some =
      let P : Option ℕ → Type 0 = λ o. only_index case box c ≡ o → is_some o ≡ true → unwrap_or o 0 ≡ slice_index plan c in
      let all : (o : Option ℕ) → P o = λ o. elim o as P [
        | None ↦ λ e h. absurd (true≢false (sym h))
        | Some k ↦ λ e h. sym (only_below-is (count_of case c) (box c) k (slice_index plan c) e (good.known c low) (here c low))
      ] in
      all (only_index case box c) refl some

  same_freqs : (box : Box) (target : ℕ) (roles : List ℕ) → InBox box plan
      → list_all (λ c. nat_lt c (length case.carriers)) roles ≡ true
      → list_all (λ c. (c == target) || is_some (only_index case box c)) roles ≡ true
      → map (λ c. freq_of case c (indices_with case box target (slice_index plan target) c)) roles ≡ map (λ c. freq_of case c (slice_index plan c)) roles
  same_freqs box target [] here known one = refl
  same_freqs box target (c ∷ cs) here known one =
      let k = and_parts (nat_lt c (length case.carriers)) _ known in
      let o = and_parts ((c == target) || is_some (only_index case box c)) _ one in
      let low : c < length plan = omega (arith, ltb-true _ _ k.0, good.full) in
      let same : indices_with case box target (slice_index plan target) c ≡ slice_index plan c =
      elim (cases_Bool (c == target)) [
        | inl is ↦ subst (λ (b : Bool). (if b then slice_index plan target else unwrap_or (only_index case box c) 0) ≡ slice_index plan c) (sym is)
            (ap (slice_index plan) (sym (eqb-true c target is)))
        | inr not_is ↦ subst (λ (b : Bool). (if b then slice_index plan target else unwrap_or (only_index case box c) 0) ≡ slice_index plan c) (sym not_is)
            (one_is box c here low (subst (λ (b : Bool). (b || is_some (only_index case box c)) ≡ true) not_is o.0))
      ] in
      let rest = same_freqs box target cs here k.1 o.1 in
      ap (λ (k : ℕ). freq_of case c k ∷ map (λ c. freq_of case c (indices_with case box target (slice_index plan target) c)) cs) same
      ∙ ap (λ (fs : List ℕ). freq_of case c (slice_index plan c) ∷ fs) rest

  rule-keeps : (box : Box) (kind : Kind) (roles : List ℕ) (target lo hi : ℕ) → InBox box plan
      → is_ruled_out case box kind roles target lo hi ≡ true → InBox (without box target (between lo hi)) plan
  rule-keeps box kind roles target lo hi here out c low = spared (box c (slice_index plan c)) (c == target) (between lo hi (slice_index plan c)) (here c low) (λ same.
      elim (cases_Bool (between lo hi (slice_index plan c))) [
        | inr outside ↦ outside
        | inl inside ↦
            let is : c ≡ target = eqb-true c target same in
            let parts = and_parts (is_instance case kind roles && list_all (λ c. (c == target) || is_some (only_index case box c)) roles) _ out in
            let front = and_parts (is_instance case kind roles) _ parts.0 in
            let known : list_all (λ c. nat_lt c (length case.carriers)) roles ≡ true = known_roles case kind roles front.0 in
            let low' : target < length plan = omega arith in
            let hit : breaks case kind roles (indices_with case box target (slice_index plan target)) ≡ true =
            implied (between lo hi (slice_index plan target)) _
            (each_below-at (count_of case target) (λ k. not (between lo hi k) || breaks case kind roles (indices_with case box target k)) (slice_index plan target) parts.1 (good.known target low'))
            (subst (λ (d : ℕ). between lo hi (slice_index plan d) ≡ true) is inside) in
            let same_breaks : breaks case kind roles (indices_with case box target (slice_index plan target)) ≡ breaks case kind roles (slice_index plan) =
            ap (λ (fs : List ℕ). is_broken kind fs (margin_of case kind roles)) (same_freqs box target roles here known front.1) in
            absurd (true≢false (sym hit ∙ (same_breaks ∙ good.kept kind roles front.0)))
      ])

  ban-keeps : (box : Box) (b lo hi : ℕ) → InBox box plan → is_barred case b lo hi ≡ true → InBox (without box b (between lo hi)) plan
  ban-keeps box b lo hi here barred c low = spared (box c (slice_index plan c)) (c == b) (between lo hi (slice_index plan c)) (here c low) (λ same.
      elim (cases_Bool (between lo hi (slice_index plan c))) [
        | inr outside ↦ outside
        | inl inside ↦
            let is : c ≡ b = eqb-true c b same in
            let low' : b < length plan = omega arith in
            let both : (between lo hi (slice_index plan b) && is_allowed case b (slice_index plan b)) ≡ true =
            and_from (between lo hi (slice_index plan b)) _ (subst (λ (d : ℕ). between lo hi (slice_index plan d) ≡ true) is inside) (good.allowed b low') in
            absurd (true≢false (sym both ∙ not-true _ (each_below-at (count_of case b) (λ k. not (between lo hi k && is_allowed case b k)) (slice_index plan b) barred (good.known b low'))))
      ])

  pub effect-keeps : (lines : List LogLine) (box next : Box) (hint : Hint) → AreRight case lines → InBox box plan
      → effect case lines box hint ≡ Some next → InBox next plan
  effect-keeps lines box next (Earlier line) right here e = line-keeps box next (nogood_at lines line) here (right line) e
  effect-keeps lines box next (Ban carrier lo hi) right here e =
      let parts = some_when (is_barred case carrier lo hi) _ next e in
      subst (λ (b : Box). InBox b plan) parts.1 (ban-keeps box carrier lo hi here parts.0)
  effect-keeps lines box next (Rule kind roles target lo hi) right here e =
      let parts = some_when (is_ruled_out case box kind (take (roles_of kind) roles) (slice_index roles target) lo hi) _ next e in
      subst (λ (b : Box). InBox b plan) parts.1 (rule-keeps box kind (take (roles_of kind) roles) (slice_index roles target) lo hi here parts.0)

  pub hints-keep : (lines : List LogLine) (box last : Box) (hints : List Hint) → AreRight case lines → InBox box plan
      → after_hints case lines box hints ≡ Some last → InBox last plan
  hints-keep lines box last [] right here e = let is : box ≡ last = cc in subst (λ (b : Box). InBox b plan) is here
  hints-keep lines box last (hint ∷ hints) right here e =
      let P : Option Box → Type 0 = λ o. effect case lines box hint ≡ o
      → (elim o as (λ _. Option Box) [ None ↦ None | Some next ↦ after_hints case lines next hints ]) ≡ Some last → InBox last plan in
      let all : (o : Option Box) → P o = λ o. elim o as P [
        | None ↦ λ is h. cc
        | Some next ↦ λ is h. hints-keep lines next last hints right (effect-keeps lines box next hint right here is) h
      ] in
      all (effect case lines box hint) refl e

  -- a box that has the plan is not dead
  pub living : (box : Box) → InBox box plan → is_dead case box ≡ true → ⊥
  living box here dead =
      let each : each_below (length case.carriers) (λ c. not (has_none case box c)) ≡ true =
      each_below-from (length case.carriers) (λ c. not (has_none case box c)) (λ c low.
      elim (cases_Bool (has_none case box c)) [
        | inr some ↦ not_from_false _ some
        | inl none ↦
            let low' : c < length plan = omega (arith, good.full) in
            absurd (true≢false (sym (here c low') ∙ not-true _ (each_below-at (count_of case c) (λ k. not (box c k)) (slice_index plan c) none (good.known c low'))))
      ]) in
      true≢false (sym dead ∙ ap not each)
