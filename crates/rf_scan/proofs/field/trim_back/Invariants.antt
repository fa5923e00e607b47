use Rattle.std.proofs.Common.{◌≡◌, ◌≤◌, length, take}
use Rattle.rf_scan.specs.Scan.{trim_back}
use Rattle.rf_scan.proofs.field.trim_back.Given as goal

abbrev pub invariant-loop-end : goal.invariant-loop-end
invariant-loop-end l = (l.end ≤ length l.field) × (trim_back l.field ≡ trim_back (take l.end l.field))

abbrev pub decreases-loop-end : goal.decreases-loop-end
decreases-loop-end l = l.end
