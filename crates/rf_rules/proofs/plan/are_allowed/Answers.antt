use Rattle.std.proofs.Common.{◌≡◌, ◌+◌, length, ap, sym, ◌∙◌, arith, slice_index}
use Rattle.std.specs.List.{list_all}
use Rattle.rf_show.specs.Query.{is_allowed}
use Rattle.rf_rules.specs.Tuples.{upto}
use Rattle.rf_rules.proofs.PlanLaws.{each-more, each-not, each-zero}
use Rattle.rf_rules.proofs.plan.are_allowed.Goals as goal

pub loop-carrier-init : goal.loop-carrier-init
loop-carrier-init c = each-zero (λ k. is_allowed c.args.show.now k (slice_index c.args.plan.now k))

pub loop-carrier-preserved : goal.loop-carrier-preserved
loop-carrier-preserved c =
    each-more (λ k. is_allowed c.args.show.now k (slice_index c.args.plan.now k)) c.loop-carrier.carrier (c.loop-carrier.carrier + 1) (omega arith) c.loop-carrier.invariant
    (sym c.allowed.ensures ∙ c.if-not-allowed.false)

pub returns-then-not-allowed : goal.returns-then-not-allowed
returns-then-not-allowed c =
    sym (each-not (λ k. is_allowed c.args.show.now k (slice_index c.args.plan.now k)) (length c.args.plan.now) c.loop-carrier.carrier c.loop-carrier-test.true
    (sym c.allowed.ensures ∙ c.if-not-allowed.true))

pub returns : goal.returns
returns c =
    let end : c.loop-carrier.carrier ≡ length c.args.plan.now = omega arith in
    sym (ap (λ n. list_all (λ k. is_allowed c.args.show.now k (slice_index c.args.plan.now k)) (upto n)) (sym end) ∙ c.loop-carrier.invariant)
