use Rattle.std.proofs.Common.{◌≡◌, false, map, take}
use Rattle.rf_zones.specs.Timed.{share_begin}
use Rattle.rf_zones.proofs.timed.share_begin.Given as goal

abbrev pub invariant-loop-interval : goal.invariant-loop-interval
invariant-loop-interval g l = share_begin (map g.T.Timed.intervals l.all) l.set (take l.interval-index l.list) ≡ false
