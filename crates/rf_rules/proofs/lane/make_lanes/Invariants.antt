use Rattle.std.proofs.Common.{◌≡◌, ◌≤◌, length, map, take, All}
use Rattle.rf_rules.specs.Instances.{IsLimited}
use Rattle.rf_rules.specs.Searches.{lane_of}
use Rattle.rf_rules.specs.Tuples.{upto}
use Rattle.rf_rules.proofs.lane.make_lanes.Given as goal

abbrev pub invariant-loop-carrier : goal.invariant-loop-carrier
invariant-loop-carrier l = record {
  lanes : take l.carrier l.lanes ≡ map (lane_of l.show l.ats l.kind) (upto l.carrier);
  room : length l.show.carriers ≤ length l.lanes;
  limited : All IsLimited (take l.carrier l.ats);
}
