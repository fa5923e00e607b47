use Rattle.std.proofs.Common.{◌≡◌}
use Rattle.rf_core.specs.Unlocking.{eased_below}
use Rattle.rf_core.proofs.locks.eased.Given as goal

abbrev pub invariant-loop-i : goal.invariant-loop-i
invariant-loop-i l = l.eased ≡ eased_below l.show l.keep l.i
