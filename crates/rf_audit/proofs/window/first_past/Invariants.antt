use Rattle.std.proofs.Common.{◌<◌, ◌≤◌, ◌-◌, ℕ, pos, ◌+ℤ◌, ◌*ℤ◌, ◌≤ℤ◌, ◌<ℤ◌, length, slice_index}
use Rattle.rf_audit.proofs.window.first_past.Given as goal

abbrev pub invariant-loop-from : goal.invariant-loop-from
invariant-loop-from l = record {
  order : l.from ≤ l.end;
  within : l.end ≤ length l.freqs;
  before : (k : ℕ) → k < l.from → (l.rest +ℤ (l.multiple *ℤ pos (slice_index l.freqs k))) ≤ℤ l.bound;
  after : (k : ℕ) → l.end ≤ k → k < length l.freqs → l.bound <ℤ (l.rest +ℤ (l.multiple *ℤ pos (slice_index l.freqs k)));
}

abbrev pub decreases-loop-from : goal.decreases-loop-from
decreases-loop-from l = l.end - l.from
