use Rattle.rf_propagate.specs.Laws.{same}
use Rattle.rf_nogoods.specs.Removals.{entry_by}
use Rattle.rf_nogoods.proofs.RemovalLemmas.{extends_by}
use Rattle.rf_nogoods.proofs.removal.strike.Goals as goal

pub returns-in_default-clause-sound : goal.returns-in_default-clause-sound
returns-in_default-clause-sound c = λ case lines why. same

pub returns-then-first-hi-clause-sound : goal.returns-then-first-hi-clause-sound
returns-then-first-hi-clause-sound c = λ case lines why. same

pub returns-clause-sound : goal.returns-clause-sound
returns-clause-sound c = λ case lines why.
    extends_by c.args.trail.now c.remove_because.new.self (entry_by c.args.line c.args.carrier c.args.lo c.args.hi) c.remove_because.result
    c.remove_because.ensures.ok c.remove_because.ensures.err case lines why
