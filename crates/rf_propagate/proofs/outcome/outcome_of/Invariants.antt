use Rattle.rf_propagate.proofs.Steps.{AllLive}
use Rattle.rf_propagate.proofs.outcome.outcome_of.Given as goal

abbrev pub invariant-loop-carrier : goal.invariant-loop-carrier
invariant-loop-carrier l = AllLive l.domains l.carrier
