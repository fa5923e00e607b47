use Rattle.std.proofs.Common.{◌≡◌, ℕ, not, ◌&&◌, length, nat_le, nat_lt}
use Rattle.rf_audit.specs.Left.{has}
use Rattle.rf_audit.proofs.marks.Marks.clear.Given as goal

abbrev pub invariant-loop-k : goal.invariant-loop-k
invariant-loop-k l = record {
  same : length l.self-inside.items.items ≡ length l.fn.self;
  cleared : (j : ℕ) → has l.self-inside.items.items j ≡ (has l.fn.self j && not (nat_le l.from j && nat_lt j l.k));
}
