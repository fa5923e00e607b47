use Rattle.std.proofs.Common.{◌≡◌, ◌<◌, ◌≤◌, ℕ, true, length, ◌||◌}
use Rattle.rf_zones.specs.Masks.{has_bit}
use Rattle.rf_show.specs.Query.{asked}
use Rattle.rf_rules.specs.Paired.{Covers, IsPairings, pair_value, stands}
use Rattle.rf_rules.proofs.pairings.Pairings.touching.Given as goal

abbrev pub invariant-loop-first : goal.invariant-loop-first
invariant-loop-first l = record {
  form : IsPairings l.pairings;
  wide : (c : ℕ) → c < length l.search.ats.now → asked l.search.show.now l.search.kind c ≤ l.pairings.width;
  pairs : (c d : ℕ) → c < l.first → d < length l.search.ats.now → (has_bit l.mask c || has_bit l.mask d) ≡ true → stands l.search c ≡ true → stands l.search d ≡ true →
      Covers l.pairings c (pair_value l.search c d);
}
