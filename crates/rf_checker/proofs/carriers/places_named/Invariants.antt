use Rattle.std.proofs.Common.{◌≡◌, map, take}
use Rattle.rf_checker.specs.Carriers.{place_named}
use Rattle.rf_checker.proofs.carriers.places_named.Given as goal

abbrev pub invariant-loop-name : goal.invariant-loop-name
invariant-loop-name l = l.places.items ≡ map (place_named l.carriers) (take l.name-index l.names)
