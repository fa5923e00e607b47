use Rattle.std.proofs.Common.{◌≡◌, map, take}
use Rattle.rf_decide.proofs.names.names_of.Given as goal

abbrev pub invariant-loop-carrier : goal.invariant-loop-carrier
invariant-loop-carrier l = l.names.items ≡ map (λ c. c.name) (take l.carrier-index l.carriers)
