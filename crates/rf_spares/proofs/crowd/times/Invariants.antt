use Rattle.std.proofs.Common.{◌≡◌, ◌++◌, ◌-◌, [], map, take, replicate}
use Rattle.rf_spares.proofs.crowd.times.Given as goal

abbrev pub invariant-loop-i : goal.invariant-loop-i
invariant-loop-i l = l.times ≡ map (λ c. c.times) (take l.i l.carrier-items) ++ replicate (96 - l.i) []
