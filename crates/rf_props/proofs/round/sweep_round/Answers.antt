use Rattle.rf_propagate.specs.Laws.{same}
use Rattle.rf_props.proofs.RestLemmas.{known_all}
use Rattle.rf_props.proofs.round.sweep_round.Goals as goal

pub returns-then-are_within-clause-sound : goal.returns-then-are_within-clause-sound
returns-then-are_within-clause-sound c = λ lines. same

pub returns-then-are_within-clause-swept : goal.returns-then-are_within-clause-swept
returns-then-are_within-clause-swept c = known_all c.args.kinds.now (c.are_within.ensures c.if-are_within.true) c.requires.done

pub returns-in_err-live-clause-sound : goal.returns-in_err-live-clause-sound
returns-in_err-live-clause-sound c = λ lines. same

pub returns-in_err-fresh-clause-sound : goal.returns-in_err-fresh-clause-sound
returns-in_err-fresh-clause-sound c = λ lines. same
