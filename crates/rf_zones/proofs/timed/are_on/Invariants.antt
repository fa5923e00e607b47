use Rattle.std.proofs.Common.{◌≡◌, true, map, take}
use Rattle.std.specs.List.{list_all}
use Rattle.rf_zones.specs.Slices.{on_at}
use Rattle.rf_zones.proofs.timed.are_on.Given as goal

abbrev pub invariant-loop-k : goal.invariant-loop-k
invariant-loop-k g l = list_all (on_at (map g.T.Timed.intervals l.all) l.minute) (take l.k-index l.set) ≡ true
