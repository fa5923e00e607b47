-- What a decision leaves, and when it is honest.
use Rattle.std.proofs.Common.{◌≡◌, ◌∙◌, ◌<◌, ◌≤◌, ◌+◌, ℕ, zero, suc, List, [], ◌∷◌, length, get_or, Bool, true, false, not, sym, ap, subst, arith}
use Rattle.std.specs.Prelude.{Option, slice_index_or, if◌then◌else◌}
use Rattle.std.proofs.lemmas.Bool.{and_from, le-leb, true≢false}
use Rattle.std.proofs.lemmas.Bool.Decides.{nat_tests}
use Rattle.std.proofs.lemmas.List.{get_or_past}
use Rattle.rf_log.specs.declared.cond.Cond.{Cond}
use Rattle.rf_log.specs.Case.{Case}
use Rattle.rf_log.specs.Box.{Box, between, is_met}
use Rattle.rf_log.specs.Relations.{Meets}
use Rattle.rf_log.specs.Solved.{IsHonest}
use Rattle.rf_audit.specs.Follow.{Tells}
use Rattle.rf_audit.specs.Left.{has, in_sets, AreSized, Covers, HasBoth, HasOutside, HasNoneIn, IsFirstIn, IsClosedTo, IsLeft}
use Rattle.rf_audit.proofs.Covers.{covers-more}

-- a decision more
pub narrow-left : (case : Case) (path : List Cond) (cond : Cond) (fixed : List (Option ℕ)) (old new : List (List Bool)) → AreSized case new
    → ((c k : ℕ) → in_sets new c k ≡ true → (in_sets old c k ≡ true) × (c ≡ cond.carrier → is_met cond k ≡ true))
    → ((c k : ℕ) → in_sets old c k ≡ true → (c ≡ cond.carrier → is_met cond k ≡ true) → in_sets new c k ≡ true)
    → IsLeft case path fixed old → IsLeft case (cond ∷ path) fixed new
narrow-left case path cond fixed old new sized fewer kept left = record {
  sized = sized;
  known = left.known;
  under = record {
    within = λ c k here. let before = left.under.within c k (fewer c k here).0 in (
      record {
        known = before.0.known;
        met = λ one has_one of. met-one c k here before.0 has_one.0 one (has_one.1, has_one.2) of;
      },
      before.1,
    );
    covers = covers-more case path cond (in_sets old) (in_sets new) left.under.covers kept;
    held = λ c k j is here. left.under.held c k j is (fewer c j here).0;
  };
  cleared = λ kind roles place among low fix made k here. left.cleared kind roles place among low fix made k (fewer _ k here).0;
}
  where
    met-one : (c k : ℕ) → in_sets new c k ≡ true → Meets case path c k → (i : ℕ) (one : Cond) → (i < length (cond ∷ path)) × (get_or (cond ∷ path) i one ≡ one) → one.carrier ≡ c → is_met one k ≡ true
    met-one c k here before zero one has_one of =
        let is : cond ≡ one = has_one.1 in
        subst (λ (x : Cond). is_met x k ≡ true) is ((fewer c k here).1 (sym of ∙ ap (λ (x : Cond). x.carrier) (sym is)))
    met-one c k here before (suc i) one has_one of = before.met one (i, (let low = has_one.0 in omega (arith, low)), has_one.1) of

-- a condition on no carrier
pub past-left : (case : Case) (path : List Cond) (cond : Cond) (fixed : List (Option ℕ)) (sets : List (List Bool)) → length sets ≤ cond.carrier
    → IsLeft case path fixed sets → IsLeft case (cond ∷ path) fixed sets
past-left case path cond fixed sets past left = narrow-left case path cond fixed sets sets left.sized
    (λ c k here. (here, λ same. absurd (true≢false (sym (subst (λ (x : ℕ). in_sets sets x k ≡ true) same here) ∙ ap (λ (m : List Bool). has m k) (get_or_past sets cond.carrier [] past)))))
    (λ c k here met. here) left

module _ (sets : List (List Bool)) (side : Cond) (marks : List Bool) (at : marks ≡ slice_index_or sets side.carrier []) (inside : side.inside ≡ true) where
  met : (k : ℕ) → is_met side k ≡ between side.lo side.hi k
  met k = ap (λ (b : Bool). if b then between side.lo side.hi k else not (between side.lo side.hi k)) inside

  here-at : (k : ℕ) → in_sets sets side.carrier k ≡ has marks k
  here-at k = ap (λ (m : List Bool). has m k) (sym at)

  pub no-left : HasNoneIn marks side.lo (side.hi + 1) → HasBoth (in_sets sets) side → ⊥
  no-left none both =
      let k = both.left.0 in
      let to : between side.lo side.hi k ≡ true = sym (met k) ∙ both.left.2 in
      true≢false (sym both.left.1 ∙ (here-at k ∙ none k (grind (arith, nat_tests, to)) (grind (arith, nat_tests, to))))

  pub tells-sides : (k : ℕ) (b : Bool) → IsFirstIn marks side.lo (side.hi + 1) k → Tells (HasOutside marks side.lo (side.hi + 1)) b → Tells (HasBoth (in_sets sets) side) b
  tells-sides k true first outside = record {
    left = (k, here-at k ∙ first.here, met k ∙ and_from _ _ (le-leb side.lo k first.above) (le-leb k side.hi (let b = first.below in omega (arith, b))));
    right = (outside.at, here-at outside.at ∙ outside.here, met outside.at ∙ (let out = outside.out in grind (arith, nat_tests, out)));
  }
  tells-sides k false first none = λ both.
      let j = both.right.0 in
      let past : between side.lo side.hi j ≡ false = sym (met j) ∙ both.right.2 in
      none (record { at = j; here = sym (here-at j) ∙ both.right.1; out = grind (arith, nat_tests, past) })

-- what the sets tell of a decision
pub tells-honest : (case : Case) (path : List Cond) (box : Box) (side : Cond) (b : Bool) → IsClosedTo case path box true → Covers case path box
    → Tells (HasBoth box side) b → Tells (IsHonest case path side) b
tells-honest case path box side true closed covers both = record {
  living = closed.1;
  left = (both.left.0, closed.0 side.carrier both.left.0 both.left.1, both.left.2);
  right = (both.right.0, closed.0 side.carrier both.right.0 both.right.1, both.right.2);
}
tells-honest case path box side false closed covers none = λ honest. none (record {
  left = (honest.left.0, covers.1 honest.living side.carrier honest.left.0 (honest.left.1 covers.0), honest.left.2);
  right = (honest.right.0, covers.1 honest.living side.carrier honest.right.0 (honest.right.1 covers.0), honest.right.2);
})
