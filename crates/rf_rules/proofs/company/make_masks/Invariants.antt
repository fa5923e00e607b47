use Rattle.std.proofs.Common.{◌<◌, ◌≤◌, ℕ, get_or, length}
use Rattle.rf_rules.specs.Companies.{Meets}
use Rattle.rf_rules.proofs.company.make_masks.Given as goal

abbrev pub invariant-loop-a : goal.invariant-loop-a
invariant-loop-a l = record {
  meets : (k : ℕ) → k < l.a → Meets l.show l.size k (get_or l.masks k 0);
  room : length l.show.carriers ≤ length l.masks;
}
