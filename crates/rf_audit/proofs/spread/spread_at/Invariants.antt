use Rattle.std.proofs.Common.{◌≡◌, ◌<◌, ℕ, List, length, slice_index}
use Rattle.rf_terms.specs.Kinds.{roles_of}
use Rattle.rf_show.specs.Case.{case_of}
use Rattle.rf_audit.specs.Left.{Falls, AreFixed, IsCleared, in_sets}
use Rattle.rf_audit.proofs.spread.spread_at.Given as goal

abbrev pub invariant-loop-at : goal.invariant-loop-at
invariant-loop-at l = record {
  falls : Falls (case_of l.show) l.fixed l.fn.sets.items l.sets.items;
  cleared : (roles : List ℕ) (at : ℕ) → length roles ≡ roles_of l.aim.kind → at < l.at → (at ≡ l.aim.place → ⊥)
      → AreFixed l.fixed roles l.aim.place → slice_index roles at ≡ l.x → IsCleared (case_of l.show) l.fixed (in_sets l.sets.items) l.aim.kind roles l.aim.place;
}
