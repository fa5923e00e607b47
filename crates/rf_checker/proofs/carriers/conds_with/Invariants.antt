use Rattle.std.proofs.Common.{◌≡◌, map, take}
use Rattle.rf_checker.specs.Carriers.{cond_with, place_at}
use Rattle.rf_checker.proofs.carriers.conds_with.Given as goal

abbrev pub invariant-loop-cond : goal.invariant-loop-cond
invariant-loop-cond l = l.all ≡ map (cond_with (place_at l.places l.other)) (take l.cond-index l.conds)
