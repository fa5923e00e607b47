use Rattle.std.proofs.Common.{◌≡◌, ◌≤◌, length, map, take, slice_index}
use Rattle.rf_show.specs.Query.{channel_of}
use Rattle.rf_rules.specs.Tuples.{upto}
use Rattle.rf_rules.proofs.plan.planned.Given as goal

abbrev pub invariant-loop-carrier : goal.invariant-loop-carrier
invariant-loop-carrier l = record {
  ats : take l.carrier l.ats ≡ map (λ c. channel_of l.show c (slice_index l.plan c)) (upto l.carrier);
  room : length l.show.carriers ≤ length l.ats;
}
