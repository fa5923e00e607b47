use Rattle.std.proofs.Common.{◌≡◌, map, take}
use Rattle.rf_show.proofs.show.Show.times.Given as goal

abbrev pub invariant-loop-i : goal.invariant-loop-i
invariant-loop-i l = take l.i l.times ≡ map (λ c. c.times) (take l.i l.carrier-items)
