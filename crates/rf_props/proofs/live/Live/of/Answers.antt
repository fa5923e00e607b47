use Rattle.rf_props.proofs.LiveLemmas.{marked_more}
use Rattle.rf_props.proofs.live.Live.of.Goals as goal

pub loop-carrier-preserved : goal.loop-carrier-preserved
loop-carrier-preserved c = marked_more c.mark_left.ensures.kept c.mark_left.ensures.marked c.loop-carrier.invariant
