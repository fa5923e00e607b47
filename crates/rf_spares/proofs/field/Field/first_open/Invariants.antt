use Rattle.std.proofs.Common.{◌<◌, ◌≤◌, ◌+◌, ℕ, length, slice_index}
use Rattle.rf_spares.specs.Fields.{AreClosed, channels_of}
use Rattle.rf_spares.specs.Markings.{IsReach}
use Rattle.rf_spares.proofs.field.Field.first_open.Given as goal

abbrev pub invariant-loop-k : goal.invariant-loop-k
invariant-loop-k l = record {
  closed : AreClosed l.self l.from l.k;
  reached : IsReach l.self.marks l.sweep.place l.sweep.reach;
  ahead : (j : ℕ) → l.k ≤ j → j < length (channels_of l.self) → l.sweep.place + l.self.marks.low ≤ slice_index (channels_of l.self) j;
}
