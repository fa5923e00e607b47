use Rattle.std.proofs.Common.{◌<◌, ℕ, length, slice_index}
use Rattle.rf_show.specs.Case.{case_of}
use Rattle.rf_audit.specs.Left.{Falls, IsClearedAt}
use Rattle.rf_audit.proofs.strike.strike.Given as goal

abbrev pub invariant-loop-g : goal.invariant-loop-g
invariant-loop-g l = record {
  falls : Falls (case_of l.show) l.fixed l.fn.sets.items l.sets.items;
  cleared : (c : ℕ) → c < length (case_of l.show).carriers → slice_index l.table.leaders.items c < l.g → IsClearedAt (case_of l.show) l.fixed l.sets.items l.aim.kind l.aim.place l.chosen c;
}
