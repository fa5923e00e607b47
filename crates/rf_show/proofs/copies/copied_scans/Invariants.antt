use Rattle.std.proofs.Common.{◌≡◌, ◌≤◌, take, vec_capacity}
use Rattle.rf_show.specs.Limits.{most_scans}
use Rattle.rf_show.proofs.copies.copied_scans.Given as goal

abbrev pub invariant-loop-scan : goal.invariant-loop-scan
invariant-loop-scan l = record {
  items : l.copy.items ≡ take l.scan-index l.scans;
  room : most_scans ≤ vec_capacity l.copy;
}
