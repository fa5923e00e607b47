use Rattle.std.proofs.Common.{◌≡◌, ℕ, nat_lt, ◌&&◌}
use Rattle.rf_zones.specs.Masks.{has_bit}
use Rattle.rf_zones.specs.Slices.{on_at}
use Rattle.rf_zones.proofs.slices.mask_at.Given as goal

abbrev pub invariant-loop-k : goal.invariant-loop-k
invariant-loop-k l = (c : ℕ) → has_bit l.on c ≡ (nat_lt c l.k && on_at l.times l.minute c)
