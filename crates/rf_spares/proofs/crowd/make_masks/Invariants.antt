use Rattle.std.proofs.Common.{◌≡◌, ◌<◌, ℕ, get_or, length, slice_index_or}
use Rattle.rf_spares.specs.Crowds.{HearsAll}
use Rattle.rf_spares.proofs.crowd.make_masks.Given as goal

abbrev pub invariant-loop-a : goal.invariant-loop-a
invariant-loop-a l = record {
  hears : (k : ℕ) → k < l.a → HearsAll l.show l.numbers l.size (slice_index_or l.numbers k 0) (get_or l.masks k 0);
  room : length l.masks ≡ 96;
}
