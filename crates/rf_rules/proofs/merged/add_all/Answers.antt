use Rattle.rf_rules.proofs.TallyLemmas.{none-more}
use Rattle.rf_rules.proofs.MergeLemmas.{all-more}
use Rattle.rf_rules.proofs.merged.add_all.Goals as goal

pub loop-conflict-init : goal.loop-conflict-init
loop-conflict-init c = none-more c.args.tally.now

pub loop-conflict-preserved : goal.loop-conflict-preserved
loop-conflict-preserved c =
    all-more c.args.conflicts.now c.loop-conflict.conflict-index _ c.args.tally.now c.loop-conflict.tally c.add.new.self c.loop-conflict-test.true c.loop-conflict.invariant
    c.in_ok-add.ensures
