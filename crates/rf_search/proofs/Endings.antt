-- A search that ends after Quiet, with one index of each carrier, has a plan.
use Rattle.std.proofs.Common.{◌≡◌, ℕ, ◌<◌, List, [], ◌∷◌, length, true, refl, arith, inl, inr, slice_index, Contains, IsTrue, eqb-true}
use Rattle.std.proofs.lemmas.Bool.{cases_Bool, and_parts}
use Rattle.rf_terms.specs.declared.kind.Kind.{Kind}
use Rattle.rf_terms.specs.Kinds.{roles_of}
use Rattle.rf_terms.proofs.KindLaws.{two_roles}
use Rattle.rf_log.specs.Case.{Case, IsPlan, count_of, is_instance, breaks}
use Rattle.rf_log.specs.Box.{Box}
use Rattle.rf_log.specs.Relations.{members, IsSole, IsStruck}
use Rattle.rf_log.proofs.CaseLaws.{known_role}
use Rattle.rf_propagate.specs.Laws.{IsQuiet, HasEveryKind}

-- the list has the one index of each carrier
pub record AreSole (case : Case) (box : Box) (plan : List ℕ) : Type 0 where
  pub full : length plan ≡ length case.carriers
  pub below : (c k : ℕ) → box c k ≡ true → k < count_of case c
  pub each : (c : ℕ) → c < length plan → IsSole (members box) c (slice_index plan c)

pub plan_from : (case : Case) (kinds : List Kind) (box : Box) (plan : List ℕ) → HasEveryKind kinds → IsQuiet case kinds true (members box)
    → AreSole case box plan → IsPlan case plan
plan_from case kinds box plan every quiet sole = record {
  full = sole.full;
  known = λ c low. sole.below c (slice_index plan c) (sole.each c low).0;
  allowed = λ c low. quiet.allowed refl c (slice_index plan c) (sole.each c low).0;
  kept = λ kind roles inst. elim (cases_Bool (breaks case kind roles (slice_index plan))) [
    | inr fine ↦ fine
    | inl broken ↦ absurd (no_break kind roles inst broken)
  ];
}
  where
    no_break : (kind : Kind) (roles : List ℕ) → IsTrue (is_instance case kind roles) → breaks case kind roles (slice_index plan) ≡ true → ⊥
    no_break kind [] inst broken =
        let size : length {A = ℕ} [] ≡ roles_of kind = eqb-true _ _ (and_parts _ _ (and_parts _ _ (and_parts _ _ (and_parts _ _ inst).0).0).0).0 in
        absurd (omega (arith, two_roles kind, size))
    no_break kind (r ∷ rs) inst broken =
        let first : Contains (r ∷ rs) r = (0, omega arith, refl) in
        let low : r < length plan = omega (arith, known_role case kind (r ∷ rs) r inst first, sole.full) in
        let struck : IsStruck case kinds (members box) r (slice_index plan r) = record {
          kind = kind;
          among = every.each kind;
          roles = r ∷ rs;
          at = slice_index plan;
          is_instance = inst;
          target = first;
          here = refl;
          others = λ s has other. sole.each s (omega (arith, known_role case kind (r ∷ rs) s inst has, sole.full));
          breaks = broken;
        } in
        quiet.settled r (slice_index plan r) (sole.each r low).0 struck
