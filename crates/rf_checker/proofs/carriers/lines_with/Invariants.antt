use Rattle.std.proofs.Common.{◌≡◌, map, take}
use Rattle.rf_checker.specs.Carriers.{line_with, place_at}
use Rattle.rf_checker.proofs.carriers.lines_with.Given as goal

abbrev pub invariant-loop-line : goal.invariant-loop-line
invariant-loop-line l = l.all.items ≡ map (line_with (place_at l.places l.other)) (take l.line-index l.lines)
