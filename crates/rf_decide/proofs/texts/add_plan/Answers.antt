use Rattle.std.proofs.Common.{rules, ◌++◌, ◌∙◌, ap, get_or}
use Rattle.rf_decide.proofs.PlanTexts.{line_all, line_more}
use Rattle.rf_decide.proofs.texts.add_plan.Goals as goal

pub loop-carrier-preserved : goal.loop-carrier-preserved
loop-carrier-preserved c =
    let i = c.loop-carrier.carrier in
    let other = c.index-carriers-carrier.result in
    line_more c.args.show.now c.args.plan.now i (get_or c.carriers.result.now i other) other _ _ _ (search (rules, c.loop-carrier-test.true))
    (ap (λ cs. get_or cs i other) c.carriers.ensures.value) c.khz_of-khz.ensures c.loop-carrier.invariant c.in_ok-write_at.ensures

pub returns : goal.returns
returns c =
    c.in_ok-extend_from_slice.ensures.items
    ∙ ap (λ text. c.args.text.now.items ++ text)
    (c.as_bytes.ensures.value ∙ line_all c.args.show.now c.args.plan.now c.loop-carrier.carrier _ (search (rules, c.loop-carrier-test.false)) c.loop-carrier.invariant)
