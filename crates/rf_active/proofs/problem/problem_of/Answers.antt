use Rattle.std.proofs.Common.{◌≡◌, [], arith, length, ap, ◌∙◌}
use Rattle.rf_active.proofs.ActiveLemmas.{added_more, none_yet, same_case}
use Rattle.rf_active.proofs.problem.problem_of.Goals as goal

pub loop-carrier-init : goal.loop-carrier-init
loop-carrier-init c =
    let masks : c.in_ok-masks.masks.items ≡ c.in_ok-slices.slices = c.in_ok-masks.ensures.items_if_clones_equal (λ x y same. same) ∙ c.masks.ensures in
    none_yet c.args.show.now c.new-problem.result c.in_ok-slices.slices (c.new-problem.ensures ∙ ap (λ m. record { slices = m; carriers = [] }) masks) c.in_ok-slices.ensures

pub loop-carrier-preserved : goal.loop-carrier-preserved
loop-carrier-preserved c = added_more c.args.show.now c.loop-carrier.carrier _ _ c.loop-carrier.invariant c.in_ok-add_carrier.ensures

pub returns : goal.returns
returns c =
    let full : c.loop-carrier.carrier ≡ length c.args.show.now.carriers = omega (arith, c.loop-carrier-test.false, c.loop-carrier.auto.carrier-end, ap length c.carriers-carrier-end.ensures.value) in
    same_case c.meeting_is_mutual.ensures c.args.show.now c.loop-carrier.problem (rw (← full) c.loop-carrier.invariant)
