use Rattle.std.proofs.Common.{◌≡◌, ◌&&◌, ℕ, nat_lt}
use Rattle.rf_zones.specs.Masks.{has_bit}
use Rattle.rf_show.specs.Query.{meet_at}
use Rattle.rf_show.proofs.show.Show.meeters.Given as goal

abbrev pub invariant-loop-b : goal.invariant-loop-b
invariant-loop-b l = (k : ℕ) → has_bit l.meeters k ≡ (nat_lt k l.b && meet_at l.size l.self.zones l.self.carriers l.carrier k)
