use Rattle.std.proofs.Common.{◌≡◌, ◌<◌, ◌≤◌, ◌+◌, ℕ, length, All, filter, slice_index}
use Rattle.rf_rules.specs.Tuples.{upto}
use Rattle.rf_spares.specs.Fields.{channels_of, is_open_channel}
use Rattle.rf_spares.specs.Markings.{IsReach}
use Rattle.rf_spares.proofs.field.Field.all_open.Given as goal

abbrev pub invariant-loop-k : goal.invariant-loop-k
invariant-loop-k l = record {
  found : l.open.items ≡ filter (is_open_channel l.self) (upto l.k);
  within : All (λ j. j < length (channels_of l.self)) l.open.items;
  reached : IsReach l.self.marks l.sweep.place l.sweep.reach;
  ahead : (j : ℕ) → l.k ≤ j → j < length (channels_of l.self) → l.sweep.place + l.self.marks.low ≤ slice_index (channels_of l.self) j;
}
