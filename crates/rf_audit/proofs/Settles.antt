-- One carrier more that is fixed, and where nothing more falls.
use Rattle.std.proofs.Common.{◌≡◌, ◌∙◌, ◌<◌, ℕ, zero, suc, List, length, get_or, set, Bool, true, false, refl, sym, ap, subst, arith, inl, inr, ◌⊎◌}
use Rattle.std.specs.Prelude.{Option, Some, None, is_some, slice_index, Contains}
use Rattle.std.specs.Option.{unwrap_or}
use Rattle.std.proofs.lemmas.Bool.{cases_eq, true≢false}
use Rattle.std.proofs.lemmas.List.{ext_get_or, get_or-map, get_or-set_other, get_or_default, length-set, length-map}
use Rattle.rf_terms.specs.declared.kind.Kind.{Kind}
use Rattle.rf_terms.specs.Kinds.{kinds, roles_of}
use Rattle.rf_log.specs.declared.cond.Cond.{Cond}
use Rattle.rf_log.specs.Case.{Case, count_of, freq_of, freqs_at, margin_of, is_instance, is_broken, breaks}
use Rattle.rf_log.specs.Box.{Box}
use Rattle.rf_log.specs.Relations.{members, IsSettled}
use Rattle.rf_audit.specs.Left.{in_sets, fixed_at, with_target, AreFixed, AreKnown, IsClearedWith, IsUnder, IsLeft, Falls}
use Rattle.rf_audit.specs.Looks.{IsNewlyFixed, HasTwo}
use Rattle.rf_audit.proofs.Sets.{at-set, one-more}
use Rattle.rf_audit.proofs.Struck.{at-target, at-other, differ}
use Rattle.rf_log.proofs.CaseLaws.{known_role, instance_distinct, instance_full}

-- whether an instance breaks depends only on the indices of its roles
target-breaks : (case : Case) (fixed : List (Option ℕ)) (kind : Kind) (roles : List ℕ) (place k : ℕ) (at : ℕ → ℕ) → is_instance case kind roles ≡ true → place < length roles
    → at (slice_index roles place) ≡ k → ((i : ℕ) → i < length roles → (i ≡ place → ⊥) → at (slice_index roles i) ≡ unwrap_or (fixed_at fixed (slice_index roles i)) 0)
    → breaks case kind roles at ≡ breaks case kind roles (with_target fixed (slice_index roles place) k)
target-breaks case fixed kind roles place k at made low here others =
    ap (λ (fs : List ℕ). is_broken kind fs (margin_of case kind roles)) (ext_get_or 0 (freqs_at case roles at) (freqs_at case roles (with_target fixed (slice_index roles place) k))
    (length-map roles (λ c. freq_of case c (at c)) ∙ sym (length-map roles (λ c. freq_of case c (with_target fixed (slice_index roles place) k c))))
    (λ i low_i. let low2 : i < length roles = (let e = length-map roles (λ c. freq_of case c (at c)) in omega (arith, e, low_i)) in
    get_or-map (λ c. freq_of case c (at c)) roles i 0 0 low2 ∙ ap (freq_of case (get_or roles i 0)) (same i low2)
    ∙ sym (get_or-map (λ c. freq_of case c (with_target fixed (slice_index roles place) k c)) roles i 0 0 low2)))
  where
    same : (i : ℕ) → i < length roles → at (slice_index roles i) ≡ with_target fixed (slice_index roles place) k (slice_index roles i)
    same i low_i = elim (cases_eq i place) [
      | inl is ↦ subst (λ (j : ℕ). at (slice_index roles j) ≡ with_target fixed (slice_index roles place) k (slice_index roles j)) (sym is) (here ∙ sym (at-target fixed _ k))
      | inr other ↦ others i low_i other
          ∙ sym (at-other fixed (slice_index roles place) k (slice_index roles i) (differ roles i place (instance_distinct case kind roles made) low_i low other))
    ]

-- a role with carrier x, but for one place, or none
find-role : (roles : List ℕ) (x place n : ℕ) → ((i : ℕ) × (i < n) × (i ≡ place → ⊥) × (slice_index roles i ≡ x)) ⊎ ((i : ℕ) → i < n → (i ≡ place → ⊥) → slice_index roles i ≡ x → ⊥)
find-role roles x place zero = inr (λ i low _ _. absurd (omega arith))
find-role roles x place (suc n) = elim (find-role roles x place n) [
  | inl found ↦ inl (found.0, (let low = found.1 in omega (arith, low)), found.2, found.3)
  | inr none ↦ elim (cases_eq n place) [
    | inl at_place ↦ inr (λ i low. one-more (λ i. (i ≡ place → ⊥) → slice_index roles i ≡ x → ⊥) n none (λ other _. other at_place) i (omega (arith, low)))
    | inr not_place ↦ elim (cases_eq (slice_index roles n) x) [
      | inl is ↦ inl (n, omega arith, not_place, is)
      | inr not_x ↦ inr (λ i low. one-more (λ i. (i ≡ place → ⊥) → slice_index roles i ≡ x → ⊥) n none (λ _. not_x) i (omega (arith, low)))
    ]
  ]
]

some-same : (i j : ℕ) → Some i ≡ Some j → i ≡ j
some-same i j e = cc

module _ (case : Case) (fixed : List (Option ℕ)) (x at : ℕ) (known : AreKnown case fixed) where
  abbrev more : List (Option ℕ)
  more = set fixed x (Some at)

  pub more-known : x < length case.carriers → at < count_of case x → AreKnown case more
  more-known low index = record {
    full = length-set fixed x (Some at) ∙ known.full;
    known = λ c k. at-set (λ d o. o ≡ Some k → k < count_of case d) fixed x (Some at) None (omega (arith, known.full, low))
        (λ e. subst (λ (n : ℕ). n < count_of case x) (some-same at k e) index) (λ d _ is. known.known d k is) c;
  }

  under-more : (path : List Cond) (box : Box) → x < length case.carriers → ((j : ℕ) → box x j ≡ true → j ≡ at) → IsUnder case path fixed box → IsUnder case path more box
  under-more path box low only under = record {
    within = under.within;
    covers = under.covers;
    held = λ c k j. at-set (λ d o. o ≡ Some k → box d j ≡ true → j ≡ k) fixed x (Some at) None (omega (arith, known.full, low))
        (λ e here. only j here ∙ some-same at k e) (λ d _ is here. under.held d k j is here) c;
  }

  pub left-more : (path : List Cond) (old new : List (List Bool)) → IsNewlyFixed case fixed (in_sets old) x at → IsLeft case path fixed old → Falls case more old new
      → ((kind : Kind) (place : ℕ) → Contains kinds kind → place < roles_of kind → IsClearedWith case more new x kind place) → IsLeft case path more new
  left-more path old new newly left falls spread = record {
    sized = falls.sized;
    known = more-known newly.known newly.index;
    under = falls.under path (under-more path (in_sets old) newly.known newly.only left.under);
    cleared = λ kind roles place among low fix made k here.
        let full = instance_full case kind roles made in
        elim (find-role roles x place (length roles)) [
          | inl found ↦ spread kind place among (omega (arith, full, low)) roles found.0 full (let l = found.1 in omega (arith, full, l)) found.2 fix found.3 made k here
          | inr none ↦
              let kept : (i : ℕ) → i < length roles → (i ≡ place → ⊥) → fixed_at more (slice_index roles i) ≡ fixed_at fixed (slice_index roles i) =
              λ i low_i other. get_or-set_other fixed x (slice_index roles i) (Some at) None (none i low_i other) in
              let before : AreFixed fixed roles place = λ i low_i other. ap is_some (sym (kept i low_i other)) ∙ fix i low_i other in
              target-breaks case fixed kind roles place k (with_target more (slice_index roles place) k) made low (at-target more (slice_index roles place) k) (λ i low_i other.
              at-other more (slice_index roles place) k (slice_index roles i) (differ roles i place (instance_distinct case kind roles made) low_i low other)
              ∙ ap (λ (o : Option ℕ). unwrap_or o 0) (kept i low_i other)) ∙ left.cleared kind roles place among low before made k (falls.fewer _ k here)
        ];
  }

-- where no other carrier has one index, nothing more is struck
pub settles : (case : Case) (path : List Cond) (fixed : List (Option ℕ)) (sets : List (List Bool)) → IsLeft case path fixed sets
    → ((c : ℕ) → c < length case.carriers → fixed_at fixed c ≡ None → HasTwo (in_sets sets) c) → IsSettled case kinds (members (in_sets sets))
settles case path fixed sets left two c k here struck =
    let roles = struck.roles in
    let place = struck.target.0 in
    let low : place < length roles = struck.target.1 in
    let c_is : slice_index roles place ≡ c = get_or_default roles place 0 c low ∙ struck.target.2 in
    let sole : (i : ℕ) → i < length roles → (i ≡ place → ⊥) → (slice_index roles i ≡ c → ⊥) =
    λ i low_i other. λ is. differ roles i place (instance_distinct case struck.kind roles struck.is_instance) low_i low other (is ∙ sym c_is) in
    let contains : (i : ℕ) → i < length roles → Contains roles (slice_index roles i) = λ i low_i. (i, low_i, get_or_default roles i (slice_index roles i) 0 low_i) in
    let is_fixed : (i : ℕ) → i < length roles → (i ≡ place → ⊥) → (at : ℕ) × (fixed_at fixed (slice_index roles i) ≡ Some at) = λ i low_i other.
    some-fixed (slice_index roles i) (fixed_at fixed (slice_index roles i)) refl (known_role case struck.kind roles (slice_index roles i) struck.is_instance (contains i low_i))
    (struck.at (slice_index roles i)) (struck.others (slice_index roles i) (contains i low_i) (sole i low_i other)).1 in
    let not_broken = left.cleared struck.kind roles place struck.among low (λ i low_i other. ap is_some (is_fixed i low_i other).1) struck.is_instance k
    (subst (λ (x : ℕ). in_sets sets x k ≡ true) (sym c_is) here) in
    let same = target-breaks case fixed struck.kind roles place k struck.at struck.is_instance low (ap struck.at c_is ∙ struck.here) (λ i low_i other.
    let found = is_fixed i low_i other in
    left.under.held (slice_index roles i) found.0 (struck.at (slice_index roles i)) found.1 (struck.others (slice_index roles i) (contains i low_i) (sole i low_i other)).0
    ∙ sym (ap (λ (o : Option ℕ). unwrap_or o 0) found.1)) in
    true≢false (sym struck.breaks ∙ (same ∙ not_broken))
  where
    some-fixed : (r : ℕ) (o : Option ℕ) → fixed_at fixed r ≡ o → r < length case.carriers → (at : ℕ) → ((j : ℕ) → members (in_sets sets) r j → j ≡ at) → (x : ℕ) × (fixed_at fixed r ≡ Some x)
    some-fixed r (Some x) e known at only = (x, e)
    some-fixed r None e known at only = let pair = two r known e in absurd (pair.differ (only pair.one pair.here ∙ sym (only pair.other pair.there)))
