use Rattle.std.proofs.Common.{◌≡◌, ◌++◌, drop}
use Rattle.rf_core.specs.Blocking.{locks_from}
use Rattle.rf_core.proofs.locks.locks_in.Given as goal

abbrev pub invariant-loop-i : goal.invariant-loop-i
invariant-loop-i l = l.locks.items ++ locks_from l.i (drop l.i l.carriers) ≡ locks_from 0 l.carriers
