use Rattle.std.proofs.Common.{◌≤◌, ◌<◌, ℕ, get_or}
use Rattle.rf_rules.specs.declared.lane.Lane.{Lane}
use Rattle.rf_rules.proofs.pairings.widest.Given as goal

abbrev pub invariant-loop-lane : goal.invariant-loop-lane
invariant-loop-lane l = record {
  some : 0 < l.most;
  wide : (c : ℕ) (d : Lane) → c < l.lane-index → (get_or l.lanes c d).needs ≤ l.most;
}
