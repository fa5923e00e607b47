-- What lists of sets tell of the boxes that they stand for.
use Rattle.std.proofs.Common.{◌≡◌, ℕ, ◌+◌, ◌<◌, List, [], length, Bool, true, false, not, ◌||◌, sym, ◌∙◌, ap, subst, inl, inr, IsTrue, get_or, add-one, slice_index_or, ◌↔◌, true≢false}
use Rattle.std.specs.Bool.{Decides}
use Rattle.std.proofs.lemmas.List.{get_or_default}
use Rattle.std.proofs.lemmas.Bool.{cases_Bool, and_from, not-true, not_from_false}
use Rattle.std.proofs.lemmas.Bool.Decides.{same_from_decides}
use Rattle.rf_exclusions.specs.declared.span.Span.{Span}
use Rattle.rf_exclusions.specs.Spans.{has_in, IsWithin, Misses, IsEmptySet}
use Rattle.rf_log.specs.declared.cond.Cond.{Cond}
use Rattle.rf_log.specs.Case.{Case, count_of}
use Rattle.rf_log.specs.Box.{Box, each_below, is_met, holds_throughout, has_none, is_dead}
use Rattle.rf_checker.specs.Boxes.{box_in, IsBelow, IsBoxFor}
use Rattle.rf_base.proofs.BoolLaws.{implies, implied}
use Rattle.rf_log.proofs.BoxLaws.{each_below-at, each_below-from, each_fails}

pub each_below-decides : (n : ℕ) (p : ℕ → Bool) → Decides (each_below n p) ((k : ℕ) → k < n → p k ≡ true)
each_below-decides n p = (λ e k low. each_below-at n p k e low, each_below-from n p)

-- a test of all numbers of a set is a test of those below a count, where the set is below it
tests_alike : (n : ℕ) (set : List Span) (test : ℕ → Bool) (b : Bool) → IsBelow n set
    → (IsTrue b ↔ ((x : ℕ) → has_in set x ≡ true → test x ≡ true)) → b ≡ each_below n (λ k. not (has_in set k) || test k)
tests_alike n set test b below iff =
    same_from_decides b (each_below n (λ k. not (has_in set k) || test k))
    (λ yes k low. implies (has_in set k) (test k) (iff.0 yes k), λ all. iff.1 (λ x here. implied (has_in set x) (test x) (all x (below x here)) here))
    (each_below-decides n (λ k. not (has_in set k) || test k))

pub throughout_in : (case : Case) (sets : List (List Span)) (cond : Cond) (b : Bool) (set : List Span) → IsBoxFor case sets
    → set ≡ slice_index_or sets cond.carrier [] → cond.inside ≡ true → (IsTrue b ↔ IsWithin cond.lo cond.hi set) → b ≡ holds_throughout case (box_in sets) cond
throughout_in case sets cond b set is_box is inside iff =
    tests_alike (count_of case cond.carrier) (slice_index_or sets cond.carrier []) (is_met cond) b (is_box.below cond.carrier)
    (let met : IsTrue b ↔ ((x : ℕ) → has_in set x ≡ true → is_met cond x ≡ true) = rw inside iff in
    subst (λ (s : List Span). IsTrue b ↔ ((x : ℕ) → has_in s x ≡ true → is_met cond x ≡ true)) is met)

pub throughout_out : (case : Case) (sets : List (List Span)) (cond : Cond) (b : Bool) (set : List Span) → IsBoxFor case sets
    → set ≡ slice_index_or sets cond.carrier [] → cond.inside ≡ false → (IsTrue b ↔ Misses cond.lo cond.hi set) → b ≡ holds_throughout case (box_in sets) cond
throughout_out case sets cond b set is_box is outside iff =
    tests_alike (count_of case cond.carrier) (slice_index_or sets cond.carrier []) (is_met cond) b (is_box.below cond.carrier)
    (let met : IsTrue b ↔ ((x : ℕ) → has_in set x ≡ true → is_met cond x ≡ true) =
    rw outside (λ yes x here. not_from_false _ (iff.0 yes x here), λ all. iff.1 (λ x here. not-true _ (all x here))) in
    subst (λ (s : List Span). IsTrue b ↔ ((x : ℕ) → has_in s x ≡ true → is_met cond x ≡ true)) is met)

pub none_is : (case : Case) (sets : List (List Span)) (c : ℕ) (b : Bool) (set : List Span) → IsBoxFor case sets
    → set ≡ slice_index_or sets c [] → (IsTrue b ↔ IsEmptySet set) → has_none case (box_in sets) c ≡ b
none_is case sets c b set is_box is iff =
    same_from_decides (has_none case (box_in sets) c) b (each_below-decides (count_of case c) (λ k. not (box_in sets c k))) (
      λ yes k low. not_from_false _ (ap (λ (s : List Span). has_in s k) (sym is) ∙ iff.0 yes k),
      λ all. iff.1 (λ x. elim (cases_Bool (has_in set x)) [
        | inr none ↦ none
        | inl here ↦
            let here' : box_in sets c x ≡ true = ap (λ (s : List Span). has_in s x) (sym is) ∙ here in
            absurd (true≢false (sym here' ∙ not-true _ (all x (is_box.below c x here'))))
      ]),
    )

pub read_at : (sets : List (List Span)) (i : ℕ) (set : List Span) → set ≡ get_or sets i set → i < length sets → set ≡ slice_index_or sets i []
read_at sets i set is low = is ∙ get_or_default sets i set [] low

pub each_more : (i : ℕ) (p : ℕ → Bool) → each_below i p ≡ true → p i ≡ true → each_below (i + 1) p ≡ true
each_more i p before here = rw add-one (and_from (each_below i p) (p i) before here)

pub dead_at : (case : Case) (box : Box) (c : ℕ) → c < length case.carriers → has_none case box c ≡ true → is_dead case box ≡ true
dead_at case box c low none = ap not (each_fails (length case.carriers) (λ c. not (has_none case box c)) c low (ap not none))
