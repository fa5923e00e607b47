use Rattle.std.proofs.Common.{map, filter}
use Rattle.rf_rules.specs.Tuples.{upto}
use Rattle.rf_rules.specs.Tallies.{Extends}
use Rattle.rf_rules.specs.Instances.{at_in, ats_of}
use Rattle.rf_rules.specs.Analyses.{stands_banned}
use Rattle.rf_rules.specs.declared.conflict.Conflict.TheVariants.{Banned}
use Rattle.rf_rules.proofs.analysis.add_banned.Given as goal

abbrev pub invariant-loop-carrier : goal.invariant-loop-carrier
invariant-loop-carrier l = Extends l.initial.tally l.tally (map Banned (filter (λ c. stands_banned l.show c (at_in (ats_of l.show) c)) (upto l.carrier)))
