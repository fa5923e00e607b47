use Rattle.std.proofs.Common.{subst}
use Rattle.rf_show.specs.Raised.{raised}
use Rattle.rf_decide.specs.Decisions.{IsDecision}
use Rattle.rf_margin.proofs.HalvingLemmas.{plan-at, refuted-at}
use Rattle.rf_margin.proofs.bisection.narrowed.Goals as goal

pub returns-in-Plan : goal.returns-in-Plan
returns-in-Plan c = λ show n is has.
    plan-at show n c.args.held c.args.extra c.in-Plan.plan c.requires.middle c.requires.room is
    (subst (λ d. IsDecision (raised show c.args.extra) n d) c.in-Plan.is has)

pub returns-in-Refuted : goal.returns-in-Refuted
returns-in-Refuted c = λ show n is has.
    refuted-at show n c.args.held c.args.extra c.in-Refuted.log c.requires.middle c.requires.room is
    (subst (λ d. IsDecision (raised show c.args.extra) n d) c.in-Refuted.is has)
