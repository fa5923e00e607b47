use Rattle.std.proofs.Common.{◌≡◌, ◌<◌, ℕ, length, [], None, slice_index_or}
use Rattle.rf_log.specs.Case.{count_of, is_allowed}
use Rattle.rf_show.specs.Case.{case_of}
use Rattle.rf_audit.specs.Left.{in_sets, fixed_at}
use Rattle.rf_audit.proofs.left.Left.start.Given as goal

abbrev pub invariant-loop-row : goal.invariant-loop-row
invariant-loop-row l = record {
  full : length l.sets.items ≡ l.row-index;
  fixed_full : length l.fixed.items ≡ l.row-index;
  free : (c : ℕ) → fixed_at l.fixed.items c ≡ None;
  sizes : (c : ℕ) → c < l.row-index → length (slice_index_or l.sets.items c []) ≡ count_of (case_of l.show) c;
  allowed : (c k : ℕ) → c < l.row-index → k < count_of (case_of l.show) c → in_sets l.sets.items c k ≡ is_allowed (case_of l.show) c k;
}
