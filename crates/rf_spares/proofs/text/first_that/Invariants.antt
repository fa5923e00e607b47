use Rattle.std.proofs.Common.{◌≡◌, ◌≤◌, ◌<◌, ℕ, not}
use Rattle.rf_spares.specs.Runs.{flag_at}
use Rattle.rf_spares.proofs.text.first_that.Given as goal

abbrev pub invariant-loop-k : goal.invariant-loop-k
invariant-loop-k l = (k : ℕ) → l.start ≤ k → k < l.k → flag_at l.flags k ≡ not l.wanted
