use Rattle.std.proofs.Common.{length}
use Rattle.rf_rules.specs.Tuples.{upto}
use Rattle.rf_rules.specs.Tallies.{Extends}
use Rattle.rf_rules.specs.Searches.{broken_in}
use Rattle.rf_rules.proofs.TupleLaws.{begun}
use Rattle.rf_rules.proofs.search.Search.victims.Given as goal

abbrev pub invariant-loop-carrier : goal.invariant-loop-carrier
invariant-loop-carrier l = Extends l.initial.tally l.tally (broken_in l.self l.t (begun 0 (upto (length l.self.ats.now)) (upto l.carrier)))
