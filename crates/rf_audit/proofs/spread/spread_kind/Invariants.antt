use Rattle.std.proofs.Common.{◌<◌, ℕ}
use Rattle.rf_show.specs.Case.{case_of}
use Rattle.rf_audit.specs.Left.{Falls, IsClearedWith}
use Rattle.rf_audit.proofs.spread.spread_kind.Given as goal

abbrev pub invariant-loop-place : goal.invariant-loop-place
invariant-loop-place l = record {
  falls : Falls (case_of l.show) l.fixed l.fn.sets.items l.sets.items;
  cleared : (place : ℕ) → place < l.place → IsClearedWith (case_of l.show) l.fixed l.sets.items l.x l.kind place;
}
