use Rattle.std.proofs.Common.{◌≡◌, ◌++◌, length, take}
use Rattle.rf_rules.specs.Tuples.{upto}
use Rattle.rf_rules.specs.Products.{noted_in}
use Rattle.rf_rules.proofs.TupleLaws.{begun}
use Rattle.rf_rules.proofs.search.Search.last_sources.Given as goal

abbrev pub invariant-loop-carrier : goal.invariant-loop-carrier
invariant-loop-carrier l = l.found.items ≡ l.initial.found.items ++ noted_in l.self l.lo l.hi (take l.depth l.roles) (begun 0 (upto (length l.self.ats.now)) (upto l.carrier))
