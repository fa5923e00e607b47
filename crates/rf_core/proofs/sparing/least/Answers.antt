use Rattle.std.proofs.Common.{arith, suc, ◌∙◌, subst}
use Rattle.rf_decide.specs.Decisions.{no_call, and_call, IsDecision}
use Rattle.rf_core.proofs.SparingLemmas.{stuck-first}
use Rattle.rf_core.proofs.sparing.least.Goals as goal
use Rattle.rf_decide.proofs.CallLaws.{one-before}

pub returns-in_err-keep-clause-calls : goal.returns-in_err-keep-clause-calls
returns-in_err-keep-clause-calls g c = (0, omega arith, no_call)

pub returns-in_err-plan-clause-calls : goal.returns-in_err-plan-clause-calls
returns-in_err-plan-clause-calls g c = (1, omega arith, and_call no_call c.decide.ensures.asked)

pub returns-in-Plan-clause-calls : goal.returns-in-Plan-clause-calls
returns-in-Plan-clause-calls g c = (1, omega arith, and_call no_call c.decide.ensures.asked)

pub returns-in-Refuted-clause-calls : goal.returns-in-Refuted-clause-calls
returns-in-Refuted-clause-calls g c =
    let more = c.spare.ensures.calls in
    (suc more.0, omega (arith, more.1), one-before c.args.show.now c.decide.ensures.asked more.2)

pub returns-in-Spent-clause-blocked : goal.returns-in-Spent-clause-blocked
returns-in-Spent-clause-blocked g c =
    stuck-first c.args.show.now c.args.budget c.in-Spent.log c.from_vec.result (c.from_vec.ensures ∙ c.in_ok-keep.ensures)
    (subst (λ d. IsDecision c.args.show.now c.args.budget d) c.in-Spent.is c.in_ok-plan.ensures.decided)

pub returns-in-Spent-clause-calls : goal.returns-in-Spent-clause-calls
returns-in-Spent-clause-calls g c = (1, omega arith, and_call no_call c.decide.ensures.asked)
