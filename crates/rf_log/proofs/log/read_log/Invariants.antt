use Rattle.std.proofs.Common.{◌≡◌, ◌≤◌, ◌+◌, length}
use Rattle.rf_log.specs.LogText.{IsLog, log_of, log_with}
use Rattle.rf_log.proofs.log.read_log.Given as goal

abbrev pub invariant-loop-line : goal.invariant-loop-line
invariant-loop-line l = record {
  is : log_of l.bytes ≡ log_with (record { names = l.names; lines = l.lines.items }) l.rest;
  log : IsLog (record { names = l.names; lines = l.lines.items });
  few : length l.lines.items + length l.rest ≤ length l.bytes;
}

abbrev pub decreases-loop-line : goal.decreases-loop-line
decreases-loop-line l = length l.rest
