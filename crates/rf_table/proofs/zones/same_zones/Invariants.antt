use Rattle.std.proofs.Common.{◌<◌, ℕ}
use Rattle.rf_table.specs.Unchanged.{SameZone}
use Rattle.rf_table.proofs.zones.same_zones.Given as goal

abbrev pub invariant-loop-z : goal.invariant-loop-z
invariant-loop-z l = (k : ℕ) → k < l.z → SameZone l.old l.new k
