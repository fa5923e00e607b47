use Rattle.std.proofs.Common.{arith, subst}
use Rattle.rf_margin.specs.Halving.{IsTurn}
use Rattle.rf_margin.proofs.HalvingLemmas.{goes-on, once-more, way-first}
use Rattle.rf_margin.proofs.bisection.bisect.Goals as goal

pub halvings-init : goal.halvings-init
halvings-init g c = way-first c.args.show.now c.args.budget c.args.plan (c.raised_by_none.ensures c.args.show.now) c.requires.plan

pub returns-in_err-next-clause-calls : goal.returns-in_err-next-clause-calls
returns-in_err-next-clause-calls g c = once-more c.halvings.invariant (omega (arith, c.halvings-test.true, c.high.ensures)) c.narrow.ensures.calls

pub halvings-preserved : goal.halvings-preserved
halvings-preserved g c =
    goes-on c.halvings.invariant (omega (arith, c.halvings-test.true, c.high.ensures)) c.narrow.ensures.calls
    (subst (λ t. IsTurn c.args.show.now c.args.budget c.halvings.held t) c.in-Narrower.is c.in_ok-next.ensures.turn)

pub returns-in-Stuck-clause-calls : goal.returns-in-Stuck-clause-calls
returns-in-Stuck-clause-calls g c = once-more c.halvings.invariant (omega (arith, c.halvings-test.true, c.high.ensures)) c.narrow.ensures.calls

pub returns-clause-widened : goal.returns-clause-widened
returns-clause-widened g c = c.answer_of.ensures c.args.show.now c.args.budget c.halvings.invariant.holds
