-- The one index of a carrier, and what a rule hint asks.
use Rattle.std.proofs.Common.{◌≡◌, ℕ, zero, suc, ◌<◌, ◌≤◌, ◌==◌, List, [], ◌∷◌, length, Bool, true, false, not, ◌&&◌, ◌||◌, refl, sym, ◌∙◌, ap, subst, arith, inl, inr, map, take, set}
use Rattle.std.proofs.Common.{is_some, Option, Some, None, MatchOption, nat_lt, slice_index, slice_index_or, leb-true, true≢false, eq-eqb, le-leb, eqb-true}
use Rattle.std.proofs.Math.Seq.{take-set-lt}
use Rattle.std.specs.List.{All, list_all}
use Rattle.std.proofs.lemmas.Bool.{cases_Bool, and_parts, and_from, or_right, or_left, not-true, not_from_false, and_right, or_parts, or_from, not_from_true}
use Rattle.rf_exclusions.specs.declared.span.Span.{Span}
use Rattle.rf_exclusions.specs.Spans.{has_in, IsOnly}
use Rattle.rf_log.specs.Case.{Case, count_of, is_instance, are_distinct, are_together, is_among, is_broken, is_in_order, breaks, freq_of, freqs_at, margin_of}
use Rattle.rf_log.specs.Box.{Box, only_below, only_index, between}
use Rattle.rf_terms.specs.declared.kind.Kind.{Kind}
use Rattle.rf_terms.specs.Kinds.{roles_of}
use Rattle.rf_log.specs.Hints.{is_ruled_out, indices_with}
use Rattle.rf_checker.specs.Boxes.{box_in, IsBelow, IsBoxFor}
use Rattle.rf_checker.specs.Ranges.{IsEach}
use Rattle.rf_base.proofs.ListLaws.{tested_below}
use Rattle.rf_log.proofs.BoxLaws.{each_below-from, only_below-is, each_fails, only_below-from, only_below-sound}

-- what `only` of a set answers is the one index below a count, where the set is below it
pub only_set : (n : ℕ) (set : List Span) (o : Option ℕ) → IsBelow n set → MatchOption o ((x : ℕ) → IsOnly set x → ⊥) (λ x. IsOnly set x) → o ≡ only_below n (has_in set)
only_set n set (Some k) below only = sym (only_below-from n (has_in set) k (below k only.0) only.0 only.1)
only_set n set None below none =
    let P : Option ℕ → Type 0 = λ o. only_below n (has_in set) ≡ o → None ≡ o in
    let all : (o : Option ℕ) → P o = λ o. elim o as P [
      | None ↦ λ e. refl
      | Some k ↦ λ e. absurd (none k ((only_below-sound n (has_in set) k e).1, λ y here. only_below-is n (has_in set) k y e (below y here) here))
    ] in
    all (only_below n (has_in set)) refl ∙ refl

pub only_is : (case : Case) (sets : List (List Span)) (c : ℕ) (o : Option ℕ) (set : List Span) → IsBoxFor case sets → set ≡ slice_index_or sets c []
    → MatchOption o ((x : ℕ) → IsOnly set x → ⊥) (λ x. IsOnly set x) → o ≡ only_index case (box_in sets) c
only_is case sets c o set is_box is only = only_set (count_of case c) (slice_index_or sets c []) o (is_box.below c)
    (subst (λ (s : List Span). MatchOption o ((x : ℕ) → IsOnly s x → ⊥) (λ x. IsOnly s x)) is only)

pub instance_is : (case : Case) (kind : Kind) (roles : List ℕ) → length roles ≡ roles_of kind → All (λ c. c < length case.carriers) roles
    → is_instance case kind roles ≡ ((are_distinct roles && is_in_order kind roles) && are_together case roles)
instance_is case kind roles full known =
    let front : ((length roles == roles_of kind) && list_all (λ c. nat_lt c (length case.carriers)) roles) ≡ true =
    and_from (length roles == roles_of kind) _ (eq-eqb _ _ full) (tested_below (length case.carriers) roles known) in
    ap (λ (b : Bool). ((b && are_distinct roles) && is_in_order kind roles) && are_together case roles) front

pub ruled_not : (case : Case) (box : Box) (kind : Kind) (roles : List ℕ) (target lo hi k : ℕ) → k < count_of case target → lo ≤ k → k ≤ hi
    → breaks case kind roles (indices_with case box target k) ≡ false → is_ruled_out case box kind roles target lo hi ≡ false
ruled_not case box kind roles target lo hi k low from to kept =
    and_right (is_instance case kind roles && list_all (λ c. (c == target) || is_some (only_index case box c)) roles) _
    (each_fails (count_of case target) (λ k. not (between lo hi k) || breaks case kind roles (indices_with case box target k)) k low
    (or_from (not (between lo hi k)) _ (not_from_true _ (and_from _ _ (le-leb lo k from) (le-leb k hi to))) kept))

pub ruled_all : (case : Case) (box : Box) (kind : Kind) (roles : List ℕ) (target lo hi : ℕ) → is_instance case kind roles ≡ true
    → list_all (λ c. (c == target) || is_some (only_index case box c)) roles ≡ true
    → ((j : ℕ) → lo ≤ j → j ≤ hi → breaks case kind roles (indices_with case box target j) ≡ true) → is_ruled_out case box kind roles target lo hi ≡ true
ruled_all case box kind roles target lo hi made others all =
    and_from (is_instance case kind roles && list_all (λ c. (c == target) || is_some (only_index case box c)) roles) _ (and_from (is_instance case kind roles) _ made others)
    (each_below-from (count_of case target) (λ k. not (between lo hi k) || breaks case kind roles (indices_with case box target k)) (λ k low.
    elim (cases_Bool (between lo hi k)) [
      | inr out ↦ or_left (not (between lo hi k)) _ (not_from_false _ out)
      | inl inside ↦
          let ends = and_parts _ _ inside in
          or_right (not (between lo hi k)) _ (all k (leb-true lo k ends.0) (leb-true k hi ends.1))
    ]))

-- ---- the frequencies of an instance of which one carrier changes its index

module _ (case : Case) (box : Box) (target : ℕ) where
  abbrev with_index : ℕ → ℕ → ℕ
  with_index k c = freq_of case c (indices_with case box target k c)

  with_here : (c k : ℕ) → (c == target) ≡ true → with_index k c ≡ freq_of case c k
  with_here c k e = rw e refl

  with_other : (c k : ℕ) → (c == target) ≡ false → with_index k c ≡ with_index 0 c
  with_other c k e = rw e refl

  others_same : (roles : List ℕ) (k : ℕ) → is_among roles target ≡ false → map (with_index k) roles ≡ map (with_index 0) roles
  others_same [] k none = refl
  others_same (r ∷ roles) k none =
      let parts = or_parts (r == target) (is_among roles target) none in
      let first = with_other r k parts.0 in
      let rest = others_same roles k parts.1 in
      rw (first, rest) refl

  among_at : (roles : List ℕ) (place : ℕ) → place < length roles → slice_index roles place ≡ target → is_among roles target ≡ true
  among_at [] place low is = absurd (omega arith)
  among_at (r ∷ roles) zero low is = or_left (r == target) (is_among roles target) (eq-eqb r target is)
  among_at (r ∷ roles) (suc place) low is = or_right (r == target) (is_among roles target) (among_at roles place (omega arith) is)

  at_place : (roles : List ℕ) (place k : ℕ) → place < length roles → slice_index roles place ≡ target → are_distinct roles ≡ true
      → map (with_index k) roles ≡ set (map (with_index 0) roles) place (freq_of case target k)
  at_place [] place k low is distinct = absurd (omega arith)
  at_place (r ∷ roles) zero k low is distinct =
      let parts = and_parts (not (is_among roles r)) (are_distinct roles) distinct in
      let none : is_among roles target ≡ false = subst (λ (c : ℕ). is_among roles c ≡ false) is (not-true _ parts.0) in
      let first : with_index k r ≡ freq_of case target k = with_here r k (eq-eqb r target is) ∙ ap (λ (c : ℕ). freq_of case c k) is in
      let rest = others_same roles k none in
      rw (first, rest) refl
  at_place (r ∷ roles) (suc place) k low is distinct =
      let parts = and_parts (not (is_among roles r)) (are_distinct roles) distinct in
      let there = among_at roles place (omega arith) is in
      let first : with_index k r ≡ with_index 0 r = elim (cases_Bool (r == target)) [
        | inl same ↦
            let e : target ≡ r = sym (eqb-true r target same) in
            absurd (true≢false (sym (subst (λ (c : ℕ). is_among roles c ≡ true) e there) ∙ not-true _ parts.0))
        | inr other ↦ with_other r k other
      ] in
      let rest = at_place roles place k (omega arith) is parts.1 in
      rw (first, rest) refl

  instance_distinct : (kind : Kind) (roles : List ℕ) → is_instance case kind roles ≡ true → are_distinct roles ≡ true
  instance_distinct kind roles made =
      let a = and_parts _ (are_together case roles) made in
      let b = and_parts _ (is_in_order kind roles) a.0 in
      (and_parts _ (are_distinct roles) b.0).1

  -- what a loop over the indices of the target finds is what the definition asks
  pub ruled_each : (kind : Kind) (roles freqs : List ℕ) (place lo hi : ℕ) (b : Bool) → place < length roles → slice_index roles place ≡ target → hi < count_of case target
      → is_instance case kind roles ≡ true → list_all (λ c. (c == target) || is_some (only_index case box c)) roles ≡ true
      → take (length roles) freqs ≡ freqs_at case roles (indices_with case box target 0)
      → IsEach (λ k. is_broken kind (set (take (length roles) freqs) place (freq_of case target k)) (margin_of case kind roles)) lo hi b
      → b ≡ is_ruled_out case box kind roles target lo hi
  ruled_each kind roles freqs place lo hi true low is index made others before each =
      sym (ruled_all case box kind roles target lo hi made others (λ j from to.
      let here = at_place roles place j low is (instance_distinct kind roles made) in
      ap (λ (xs : List ℕ). is_broken kind xs (margin_of case kind roles)) (here ∙ ap (λ (xs : List ℕ). set xs place (freq_of case target j)) (sym before)) ∙ each j from to))
  ruled_each kind roles freqs place lo hi false low is index made others before fails =
      let j = fails.0 in
      let here = at_place roles place j low is (instance_distinct kind roles made) in
      sym (ruled_not case box kind roles target lo hi j (let to = fails.2 in omega (arith, to)) fails.1 fails.2
      (ap (λ (xs : List ℕ). is_broken kind xs (margin_of case kind roles)) (here ∙ ap (λ (xs : List ℕ). set xs place (freq_of case target j)) (sym before)) ∙ fails.3))

-- ---- a number that is set again and again at one place

set_again : (xs : List ℕ) (place a b : ℕ) → set (set xs place a) place b ≡ set xs place b
set_again [] place a b = refl
set_again (x ∷ xs) zero a b = refl
set_again (x ∷ xs) (suc place) a b = ap (λ (ys : List ℕ). x ∷ ys) (set_again xs place a b)

-- lists that agree but for one place
abbrev pub Agree : List ℕ → List ℕ → ℕ → Type 0
Agree xs ys place = (v : ℕ) → set xs place v ≡ set ys place v

pub agree_more : (xs ys : List ℕ) (place a : ℕ) → Agree xs ys place → Agree (set xs place a) ys place
agree_more xs ys place a same v = set_again xs place a v ∙ same v

pub front_set : (xs ys : List ℕ) (place count v : ℕ) → Agree xs ys place → place < count → take count (set xs place v) ≡ set (take count ys) place v
front_set xs ys place count v same low = ap (take count) (same v) ∙ take-set-lt count ys place v low

-- what a test of the numbers says, where one of them is set
pub breaks_here : (kind : Kind) (xs ys : List ℕ) (place count v freq m margin : ℕ) (b r : Bool) → Agree xs ys place → place < count → v ≡ freq → m ≡ margin
    → r ≡ is_broken kind (take count (set xs place v)) m → r ≡ b → is_broken kind (set (take count ys) place freq) margin ≡ b
breaks_here kind xs ys place count v freq m margin b r same low is asked said e =
    ap (λ (x : ℕ). is_broken kind (set (take count ys) place x) margin) (sym is)
    ∙ (ap (λ (x : ℕ). is_broken kind (set (take count ys) place v) x) (sym asked)
    ∙ (ap (λ (zs : List ℕ). is_broken kind zs m) (sym (front_set xs ys place count v same low)) ∙ (sym said ∙ e)))
