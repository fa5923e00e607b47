use Rattle.std.proofs.Common.{◌≡◌, ℕ, false, length, take, replicate}
use Rattle.rf_spares.specs.Runs.{flag_at}
use Rattle.rf_spares.specs.Texts.{is_among}
use Rattle.rf_spares.proofs.text.flags_of.Given as goal

abbrev pub invariant-loop-k : goal.invariant-loop-k
invariant-loop-k l = l.flags.items ≡ replicate l.k false

abbrev pub invariant-loop-k-2 : goal.invariant-loop-k-2
invariant-loop-k-2 l = record {
  size : length l.flags.items ≡ l.count;
  flags : (j : ℕ) → flag_at l.flags.items j ≡ is_among (take l.k-index l.ks) j;
}
