use Rattle.std.proofs.Common.{take, length, ◌-◌}
use Rattle.rf_terms.specs.Kinds.{roles_of}
use Rattle.rf_rules.specs.Tuples.{upto}
use Rattle.rf_rules.specs.Tallies.{Extends}
use Rattle.rf_rules.specs.Touched.{touched_in}
use Rattle.rf_rules.proofs.TupleLaws.{begun}
use Rattle.rf_rules.proofs.search.Search.+extend_touched.Given as goal

abbrev pub decreases-extend_touched : goal.decreases-extend_touched
decreases-extend_touched l = roles_of l.self.now.kind - l.depth

abbrev pub invariant-loop-carrier : goal.invariant-loop-carrier
invariant-loop-carrier l = Extends l.initial.tally l.tally (touched_in l.self l.touch.mask (take l.depth l.roles)
    (begun (roles_of l.self.kind - l.depth - 1) (upto (length l.self.ats.now)) (upto l.carrier)))
