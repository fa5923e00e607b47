use Rattle.std.proofs.Common.{◌≡◌, ◌<◌, ◌≤◌, ℕ, false, is_some}
use Rattle.rf_zones.specs.Masks.{has_bit}
use Rattle.rf_rules.specs.Instances.{at_in}
use Rattle.rf_rules.proofs.search.Search.standing.Given as goal

abbrev pub invariant-loop-carrier : goal.invariant-loop-carrier
invariant-loop-carrier l = record {
  below : (c : ℕ) → c < l.carrier → has_bit l.mask c ≡ is_some (at_in l.self.ats.now c);
  above : (c : ℕ) → l.carrier ≤ c → has_bit l.mask c ≡ false;
}
