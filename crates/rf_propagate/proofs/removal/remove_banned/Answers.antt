use Rattle.rf_propagate.proofs.Steps.{banned_step}
use Rattle.rf_propagate.proofs.removal.remove_banned.Goals as goal

pub returns-clause-sound : goal.returns-clause-sound
returns-clause-sound c =
    banned_step c.args.trail.now c.remove_because.new.self c.args.carrier c.args.lo c.args.hi c.requires.ordered c.requires.in_range
    c.remove_because.result c.remove_because.ensures.ok c.remove_because.ensures.err
