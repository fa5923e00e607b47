use Rattle.std.proofs.Common.{take, length, ◌-◌}
use Rattle.rf_terms.specs.Kinds.{roles_of}
use Rattle.rf_rules.specs.Tuples.{upto}
use Rattle.rf_rules.specs.Tallies.{Extends}
use Rattle.rf_rules.specs.Searches.{broken_in}
use Rattle.rf_rules.proofs.TupleLaws.{begun}
use Rattle.rf_rules.proofs.search.Search.+extend.Given as goal

abbrev pub decreases-extend : goal.decreases-extend
decreases-extend l = roles_of l.self.now.kind - l.depth

abbrev pub invariant-loop-carrier : goal.invariant-loop-carrier
invariant-loop-carrier l =
    Extends l.initial.tally l.tally (broken_in l.self (take l.depth l.roles) (begun (roles_of l.self.kind - l.depth - 1) (upto (length l.self.ats.now)) (upto l.carrier)))
