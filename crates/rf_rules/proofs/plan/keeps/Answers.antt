use Rattle.std.proofs.Common.{◌≡◌, length, ap, sym, ◌∙◌, arith}
use Rattle.std.specs.List.{list_any}
use Rattle.rf_terms.specs.Kinds.{kinds}
use Rattle.rf_rules.specs.Plans.{has_broken}
use Rattle.rf_rules.proofs.PlanLaws.{plan-forbidden, plan-judged, plan-short}
use Rattle.rf_rules.proofs.plan.keeps.Goals as goal

pub returns-then-plan-carriers : goal.returns-then-plan-carriers
returns-then-plan-carriers c =
    plan-short c.args.show.now c.args.plan.now (omega (arith, ap length c.carriers.ensures.value, c.if-plan-carriers.true))

pub returns-then-not-are_allowed : goal.returns-then-not-are_allowed
returns-then-not-are_allowed c = plan-forbidden c.args.show.now c.args.plan.now (sym c.are_allowed.ensures ∙ c.if-not-are_allowed.true)

pub returns : goal.returns
returns c =
    let show = c.args.show.now in
    let full : length c.args.plan.now ≡ length show.carriers = omega (arith, ap length c.carriers.ensures.value, c.if-plan-carriers.false) in
    let broken = c.has_broken_kind.ensures ∙ ap (λ ats. list_any (has_broken show ats) kinds) c.planned-ats.ensures in
    plan-judged show c.args.plan.now c.has_broken_kind.result full (sym c.are_allowed.ensures ∙ c.if-not-are_allowed.false) broken
