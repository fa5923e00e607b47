use Rattle.std.proofs.Common.{◌≡◌, drop}
use Rattle.rf_scan.specs.Scan.{trim_front}
use Rattle.rf_scan.proofs.field.trim_front.Given as goal

abbrev pub invariant-loop-i : goal.invariant-loop-i
invariant-loop-i l = trim_front l.field ≡ trim_front (drop l.i l.field)
