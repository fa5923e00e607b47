use Rattle.std.proofs.Common.{◌≡◌, ◌/◌, ◌<◌, ℕ, true}
use Rattle.rf_domain.specs.Indices.{has_bit}
use Rattle.rf_domain.proofs.words.are_within.Given as goal

abbrev pub invariant-loop-i : goal.invariant-loop-i
invariant-loop-i l = (k : ℕ) → k / 64 < l.i → has_bit l.words k ≡ true → has_bit l.others k ≡ true
