use Rattle.std.proofs.Common.{◌≡◌, ◌<◌, ℕ, false}
use Rattle.rf_zones.specs.Masks.{has_bit}
use Rattle.rf_table.specs.Unchanged.{SameAt}
use Rattle.rf_table.proofs.changed.changed.Given as goal

abbrev pub invariant-loop-c : goal.invariant-loop-c
invariant-loop-c l = (k : ℕ) → k < l.c → has_bit l.mask k ≡ false → SameAt l.old l.new k
