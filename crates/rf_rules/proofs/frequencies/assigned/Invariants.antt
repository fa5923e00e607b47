use Rattle.std.proofs.Common.{◌≡◌, map, take}
use Rattle.rf_rules.proofs.frequencies.assigned.Given as goal

abbrev pub invariant-loop-i : goal.invariant-loop-i
invariant-loop-i l = take l.i l.ats ≡ map (λ c. c.at) (take l.i l.carrier-items)
