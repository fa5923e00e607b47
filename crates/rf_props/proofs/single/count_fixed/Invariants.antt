use Rattle.std.proofs.Common.{◌≡◌}
use Rattle.rf_domain.specs.Indices.{count_below}
use Rattle.rf_props.specs.Sweeps.{has_at_most_one}
use Rattle.rf_props.proofs.single.count_fixed.Given as goal

abbrev pub invariant-loop-carrier : goal.invariant-loop-carrier
invariant-loop-carrier l = l.fixed ≡ count_below (has_at_most_one l.trail) l.carrier
