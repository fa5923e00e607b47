use Rattle.std.proofs.Common.{◌≡◌, ◌∙◌, ◌<◌, ◌+◌, ◌-◌, suc, arith, sym}
use Rattle.rf_log.proofs.ReadingLemmas.{hints-end, hints-wrong, hints-more}
use Rattle.rf_log.proofs.reading.read_hints.Goals as goal

pub returns-in_default : goal.returns-in_default
returns-in_default c =
    let some : 0 < c.args.most - c.loop.counter = omega arith in
    rw c.from_vec.ensures (sym (c.loop.invariant ∙ hints-end _ _ _ _ some c.in_default.ensures))

pub returns-in_default-2 : goal.returns-in_default-2
returns-in_default-2 c =
    let read = rw c.in_default-2.is at c.in_ok-hint.ensures in
    sym (c.loop.invariant ∙ hints-wrong _ _ _ _ _ _ c.in-Some.ensures (sym read))

pub loop-preserved : goal.loop-preserved
loop-preserved c =
    let one : c.args.most - c.loop.counter ≡ suc (c.args.most - (c.loop.counter + 1)) = omega arith in
    let read = rw c.in-Some-2.is at c.in_ok-hint.ensures in
    rw c.in_ok-push.ensures.items (c.loop.invariant ∙ hints-more _ _ _ _ _ _ _ _ _ _ one c.in-Some.ensures (sym read))
