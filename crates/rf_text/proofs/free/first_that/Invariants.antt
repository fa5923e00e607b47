use Rattle.std.proofs.Common.{◌≡◌, ◌≤◌, ◌<◌, ℕ, not}
use Rattle.rf_show.specs.Query.{is_allowed}
use Rattle.rf_text.proofs.free.first_that.Given as goal

abbrev pub invariant-loop-k : goal.invariant-loop-k
invariant-loop-k l = (k : ℕ) → l.start ≤ k → k < l.k → is_allowed l.show l.carrier k ≡ not l.wanted
