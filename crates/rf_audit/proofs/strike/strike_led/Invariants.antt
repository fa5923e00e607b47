use Rattle.std.proofs.Common.{◌≡◌, ◌<◌, ℕ, slice_index}
use Rattle.rf_show.specs.Case.{case_of}
use Rattle.rf_audit.specs.Left.{Falls, IsClearedAt}
use Rattle.rf_audit.proofs.strike.strike_led.Given as goal

abbrev pub invariant-loop-c : goal.invariant-loop-c
invariant-loop-c l = record {
  falls : Falls (case_of l.show) l.fixed l.fn.sets.items l.sets.items;
  cleared : (d : ℕ) → d < l.c → slice_index l.table.leaders.items d ≡ l.g → IsClearedAt (case_of l.show) l.fixed l.sets.items l.aim.kind l.aim.place l.fn.chosen d;
}
