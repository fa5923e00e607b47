use Rattle.std.proofs.Common.{◌≡◌, ◌++◌, take, length, ◌-◌}
use Rattle.rf_terms.specs.Kinds.{roles_of}
use Rattle.rf_rules.specs.Tuples.{upto}
use Rattle.rf_rules.specs.Products.{noted_in}
use Rattle.rf_rules.proofs.TupleLaws.{begun}
use Rattle.rf_rules.proofs.search.Search.+sources.Given as goal

abbrev pub decreases-sources : goal.decreases-sources
decreases-sources l = roles_of l.self.now.kind - l.depth

abbrev pub invariant-loop-carrier : goal.invariant-loop-carrier
invariant-loop-carrier l = l.found.items ≡ l.initial.found.items ++
    noted_in l.self l.lo l.hi (take l.depth l.roles) (begun (roles_of l.self.kind - 1 - l.depth - 1) (upto (length l.self.ats.now)) (upto l.carrier))
