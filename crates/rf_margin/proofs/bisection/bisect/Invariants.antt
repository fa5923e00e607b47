use Rattle.std.proofs.Common.{◌-◌}
use Rattle.rf_margin.specs.Brackets.{high_of}
use Rattle.rf_margin.specs.Halving.{IsUnderWay}
use Rattle.rf_margin.proofs.bisection.bisect.Given as goal

abbrev pub invariant-halvings : goal.invariant-halvings
invariant-halvings g l = IsUnderWay g.D.Decide.asked l.show l.budget l.initial.decide l.decide l.held

abbrev pub decreases-halvings : goal.decreases-halvings
decreases-halvings g l = high_of l.held.above - l.held.below.0
