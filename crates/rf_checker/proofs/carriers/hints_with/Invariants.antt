use Rattle.std.proofs.Common.{◌≡◌, map, take}
use Rattle.rf_checker.specs.Carriers.{hint_with, place_at}
use Rattle.rf_checker.proofs.carriers.hints_with.Given as goal

abbrev pub invariant-loop-hint : goal.invariant-loop-hint
invariant-loop-hint l = l.all.items ≡ map (hint_with (place_at l.places l.other)) (take l.hint-index l.hints)
