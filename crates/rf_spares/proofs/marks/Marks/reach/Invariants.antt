use Rattle.rf_spares.specs.Markings.{IsReach}
use Rattle.rf_spares.proofs.marks.Marks.reach.Given as goal

abbrev pub invariant-loop-place : goal.invariant-loop-place
invariant-loop-place l = IsReach l.self l.place l.reach
