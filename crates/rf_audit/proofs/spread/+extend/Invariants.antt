use Rattle.std.proofs.Common.{◌≡◌, ◌<◌, ◌-◌, ℕ, List, length, slice_index}
use Rattle.rf_terms.specs.Kinds.{roles_of}
use Rattle.rf_show.specs.Case.{case_of}
use Rattle.rf_audit.specs.Left.{Falls, AreFixed, IsAlong, IsCleared, in_sets}
use Rattle.rf_audit.proofs.spread.+extend.Given as goal

abbrev pub decreases-extend : goal.decreases-extend
decreases-extend l = roles_of l.aim.kind - l.depth

abbrev pub invariant-loop-c : goal.invariant-loop-c
invariant-loop-c l = record {
  falls : Falls (case_of l.show) l.fixed l.fn.sets.items l.sets.items;
  cleared : (roles : List ℕ) → length roles ≡ roles_of l.aim.kind → IsAlong l.depth l.aim.place l.chosen roles → AreFixed l.fixed roles l.aim.place
      → slice_index roles l.at ≡ l.x → slice_index roles l.depth < l.c → IsCleared (case_of l.show) l.fixed (in_sets l.sets.items) l.aim.kind roles l.aim.place;
}
