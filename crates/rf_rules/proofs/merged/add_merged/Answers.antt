use Rattle.std.proofs.Common.{◌-◌, length, ap, refl, ◌∙◌, arith}
use Rattle.rf_rules.specs.Renewed.{precedes}
use Rattle.rf_rules.proofs.MergeLemmas.{walk-end, walk-more, walk-start}
use Rattle.rf_rules.proofs.merged.add_merged.Goals as goal

pub loop-conflict-init : goal.loop-conflict-init
loop-conflict-init c = walk-start (precedes c.args.kind) c.args.kept.now c.as_slice-shown.result.now c.args.tally.now

pub loop-conflict-preserved : goal.loop-conflict-preserved
loop-conflict-preserved c =
    walk-more (precedes c.args.kind) c.args.kept.now c.as_slice-shown.result.now c.loop-conflict.rest.now c.in_ok-rest.rest.now c.loop-conflict.conflict-index _ c.args.tally.now
    c.loop-conflict.tally c.add_ahead.new.tally c.add.new.self c.loop-conflict-test.true c.loop-conflict.invariant c.in_ok-rest.ensures.added c.in_ok-rest.ensures.rest
    c.in_ok-add.ensures

pub returns : goal.returns
returns c = λ all e f.
    let shown = c.as_slice-shown.result.now in
    let total = c.args.found.now.total in
    walk-end (precedes c.args.kind) c.args.kept.now shown c.loop-conflict.rest.now all c.loop-conflict.conflict-index (total - length shown) total
    c.args.tally.now c.loop-conflict.tally c.add_all.new.tally c.count_more.new.self
    c.loop-conflict-test.false c.loop-conflict.invariant c.in_ok-add_all.ensures (c.as_slice-shown.ensures.value ∙ e) f refl
    (omega (arith, c.requires, ap length c.as_slice-shown.ensures.value)) c.count_more.ensures.shown c.count_more.ensures.total
