use Rattle.std.proofs.Common.{◌≡◌, ◌∙◌, ◌+◌, ◌-◌, suc, arith, sym}
use Rattle.rf_log.proofs.ReadingLemmas.{conds-more}
use Rattle.rf_log.proofs.reading.read_conds.Goals as goal

pub loop-preserved : goal.loop-preserved
loop-preserved c =
    let one : c.args.most - c.loop.counter ≡ suc (c.args.most - (c.loop.counter + 1)) = omega arith in
    let read = rw c.in-Some-2.is at c.in_ok-cond.ensures in
    let other = rw c.as_bytes.ensures.value at c.if-eq.ensures in
    rw c.in_ok-push.ensures.ok (c.loop.invariant ∙ conds-more _ _ _ _ _ _ _ _ _ _ one c.in-Some.ensures (sym other) (sym read))
