use Rattle.std.proofs.Common.{sym, ◌∙◌}
use Rattle.rf_rules.specs.Renewed.{precedes}
use Rattle.rf_rules.proofs.MergeLemmas.{ahead-more, ahead-start}
use Rattle.rf_rules.proofs.merged.add_ahead.Goals as goal

pub loop-i-init : goal.loop-i-init
loop-i-init c = ahead-start (precedes c.args.kind) c.args.conflict.now c.args.kept.now c.args.tally.now

pub loop-i-preserved : goal.loop-i-preserved
loop-i-preserved c = ahead-more (precedes c.args.kind) c.args.conflict.now _ c.args.kept.now c.loop-i.i c.args.tally.now c.loop-i.tally c.add.new.self c.loop-i-test.true
    (sym c.precedes.ensures ∙ c.if-precedes.false) c.loop-i.invariant c.in_ok-add.ensures
