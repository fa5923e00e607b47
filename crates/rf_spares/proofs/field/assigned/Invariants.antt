use Rattle.std.proofs.Common.{◌≡◌, map, take}
use Rattle.rf_spares.proofs.field.assigned.Given as goal

abbrev pub invariant-loop-carrier : goal.invariant-loop-carrier
invariant-loop-carrier l = l.ats.items ≡ map (λ c. c.at) (take l.carrier-index l.show.carriers)
