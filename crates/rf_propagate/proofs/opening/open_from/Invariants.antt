use Rattle.rf_domain.specs.Sets.{has}
use Rattle.rf_propagate.proofs.OpeningLaws.{HoldBetween}
use Rattle.rf_propagate.proofs.opening.open_from.Given as goal

abbrev pub invariant-loop-place : goal.invariant-loop-place
invariant-loop-place l = HoldBetween (has l.domains) l.conds l.from l.place
