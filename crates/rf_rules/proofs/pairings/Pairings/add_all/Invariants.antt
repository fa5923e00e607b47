use Rattle.std.proofs.Common.{◌≡◌, ◌<◌, ℕ, ℤ, true}
use Rattle.rf_zones.specs.Masks.{has_bit}
use Rattle.rf_rules.specs.Paired.{Covers, IsPairings, pair_value}
use Rattle.rf_rules.proofs.pairings.Pairings.add_all.Given as goal

abbrev pub invariant-loop-last : goal.invariant-loop-last
invariant-loop-last l = record {
  form : IsPairings l.self;
  width : l.self.width ≡ l.initial.self.width;
  covers : (d : ℕ) → d < l.last → has_bit l.lasts d ≡ true → Covers l.self l.first (pair_value l.search l.first d);
  keeps : (other : ℕ) (value : ℤ) → Covers l.initial.self other value → Covers l.self other value;
}
