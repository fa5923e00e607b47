use Rattle.std.proofs.Common.{◌≡◌, ◌<◌, ℕ}
use Rattle.rf_zones.specs.Zones.{coupling_of}
use Rattle.rf_table.proofs.zones.same_zone.Given as goal

abbrev pub invariant-loop-y : goal.invariant-loop-y
invariant-loop-y l = (k : ℕ) → k < l.y → coupling_of l.old l.z k ≡ coupling_of l.new l.z k
