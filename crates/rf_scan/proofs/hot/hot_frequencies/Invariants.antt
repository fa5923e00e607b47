use Rattle.std.proofs.Common.{◌≡◌, take}
use Rattle.rf_scan.specs.Hot.{hot_frequencies}
use Rattle.rf_scan.proofs.hot.hot_frequencies.Given as goal

abbrev pub invariant-loop-point : goal.invariant-loop-point
invariant-loop-point l = l.hot.items ≡ hot_frequencies l.threshold (take l.point-index l.points)
