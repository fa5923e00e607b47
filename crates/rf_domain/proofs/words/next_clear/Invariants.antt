use Rattle.std.proofs.Common.{◌-◌, ◌≤◌, ◌<◌, ◌*◌, ◌≡◌, ℕ, true, length}
use Rattle.rf_domain.specs.Indices.{has_bit}
use Rattle.rf_domain.proofs.words.next_clear.Given as goal

abbrev pub invariant-loop-k : goal.invariant-loop-k
invariant-loop-k l = (l.from ≤ l.k) × ((j : ℕ) → l.from ≤ j → j < l.k → has_bit l.words j ≡ true)

abbrev pub decreases-loop-k : goal.decreases-loop-k
decreases-loop-k l = 64 * length l.words - l.k
