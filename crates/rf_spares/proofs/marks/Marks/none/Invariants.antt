use Rattle.std.proofs.Common.{◌≡◌, replicate}
use Rattle.rf_spares.proofs.marks.Marks.none.Given as goal

abbrev pub invariant-loop-k : goal.invariant-loop-k
invariant-loop-k l = l.ends.items ≡ replicate l.k 0
