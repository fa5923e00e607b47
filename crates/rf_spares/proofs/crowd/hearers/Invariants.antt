use Rattle.std.proofs.Common.{◌≡◌, ◌<◌, ◌≤◌, ℕ, false, slice_index_or}
use Rattle.rf_zones.specs.Masks.{has_bit}
use Rattle.rf_spares.specs.Crowds.{meets}
use Rattle.rf_spares.proofs.crowd.hearers.Given as goal

abbrev pub invariant-loop-b : goal.invariant-loop-b
invariant-loop-b l = record {
  done : (k : ℕ) → k < l.b → has_bit l.mask k ≡ meets l.show.zones l.size l.a (slice_index_or l.numbers k 0);
  rest : (k : ℕ) → l.b ≤ k → has_bit l.mask k ≡ false;
}
