use Rattle.std.proofs.Common.{◌-◌, ◌≤◌, ◌<◌, ◌*◌, ◌≡◌, ℕ, false, length}
use Rattle.rf_domain.specs.Indices.{has_bit}
use Rattle.rf_domain.proofs.words.next_bit.Given as goal

abbrev pub invariant-loop-k : goal.invariant-loop-k
invariant-loop-k l = (l.from ≤ l.k) × ((j : ℕ) → l.from ≤ j → j < l.k → has_bit l.words j ≡ false)

abbrev pub decreases-loop-k : goal.decreases-loop-k
decreases-loop-k l = 64 * length l.words - l.k
