use Rattle.std.proofs.Common.{arith}
use Rattle.rf_props.proofs.RangeLemmas.{between_up, between_down}
use Rattle.rf_props.proofs.range.count_below.Goals as goal

pub loop-from-preserved-then-freqs-middle : goal.loop-from-preserved-then-freqs-middle
loop-from-preserved-then-freqs-middle c =
    between_up c.args.freqs.now c.args.number c.loop-from.from c.loop-from.upto _ c.requires.rising c.loop-from.invariant (omega arith) (omega arith) c.if-freqs-middle.true

pub loop-from-preserved : goal.loop-from-preserved
loop-from-preserved c =
    between_down c.args.freqs.now c.args.number c.loop-from.from c.loop-from.upto _ c.requires.rising c.loop-from.invariant (omega arith) (omega arith) c.if-freqs-middle.false
