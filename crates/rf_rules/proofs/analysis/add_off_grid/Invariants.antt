use Rattle.std.proofs.Common.{map, filter}
use Rattle.rf_rules.specs.Tuples.{upto}
use Rattle.rf_rules.specs.Tallies.{Extends}
use Rattle.rf_rules.specs.Instances.{at_in, ats_of}
use Rattle.rf_rules.specs.Analyses.{is_off_grid}
use Rattle.rf_rules.specs.declared.conflict.Conflict.TheVariants.{OffGrid}
use Rattle.rf_rules.proofs.analysis.add_off_grid.Given as goal

abbrev pub invariant-loop-carrier : goal.invariant-loop-carrier
invariant-loop-carrier l = Extends l.initial.tally l.tally (map OffGrid (filter (λ c. is_off_grid l.show c (at_in (ats_of l.show) c)) (upto l.carrier)))
