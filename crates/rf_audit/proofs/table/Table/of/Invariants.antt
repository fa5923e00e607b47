use Rattle.std.proofs.Common.{◌≡◌, ◌<◌, ℕ, length}
use Rattle.rf_show.specs.Case.{case_of}
use Rattle.rf_audit.specs.Tables.{IsTableRow}
use Rattle.rf_audit.proofs.table.Table.of.Given as goal

abbrev pub invariant-loop-c : goal.invariant-loop-c
invariant-loop-c l = record {
  full : length l.rows.items ≡ l.c;
  rows : (d : ℕ) → d < l.c → IsTableRow (case_of l.show) l.rows.items d;
}
