use Rattle.std.proofs.Common.{◌≡◌, ◌≤◌, take, vec_capacity}
use Rattle.rf_show.proofs.copies.copied.Given as goal

abbrev pub invariant-loop-item : goal.invariant-loop-item
invariant-loop-item g l = record {
  items : l.copy.items ≡ take l.item-index l.items;
  room : l.room ≤ vec_capacity l.copy;
}
