use Rattle.std.proofs.Common.{◌≡◌, ◌<◌, ℕ, length, take}
use Rattle.std.specs.List.{list_all}
use Rattle.rf_show.specs.Query.{meet_at}
use Rattle.rf_zones.specs.Masks.{has_bit}
use Rattle.rf_rules.proofs.company.Company.meeters.Given as goal

abbrev pub invariant-loop-a : goal.invariant-loop-a
invariant-loop-a l = (c : ℕ) → c < length l.self.show.now.carriers → has_bit l.mask c ≡ list_all (λ a. meet_at l.size l.self.show.now.zones l.self.show.now.carriers a c) (take l.a-index l.t)
