use Rattle.std.proofs.Common.{◌≡◌, ◌<◌, ℕ, length}
use Rattle.rf_show.specs.Case.{case_of}
use Rattle.rf_audit.specs.Tables.{IsLed}
use Rattle.rf_audit.proofs.table.leaders_of.Given as goal

abbrev pub invariant-loop-c : goal.invariant-loop-c
invariant-loop-c l = record {
  full : length l.leaders.items ≡ l.c;
  led : (d : ℕ) → d < l.c → IsLed (case_of l.show) l.leaders.items d;
}
