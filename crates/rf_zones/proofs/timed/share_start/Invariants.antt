use Rattle.std.proofs.Common.{◌≡◌, false, map, take, get_or, []}
use Rattle.std.specs.List.{list_any}
use Rattle.rf_zones.specs.Timed.{share_begin}
use Rattle.rf_zones.proofs.timed.share_start.Given as goal

abbrev pub invariant-loop-k : goal.invariant-loop-k
invariant-loop-k g l = list_any (λ k. share_begin (map g.T.Timed.intervals l.all) l.set (get_or (map g.T.Timed.intervals l.all) k [])) (take l.k-index l.set) ≡ false
