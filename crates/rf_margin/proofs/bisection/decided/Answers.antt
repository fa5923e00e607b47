use Rattle.std.proofs.Common.{arith, suc}
use Rattle.rf_decide.specs.Decisions.{no_call, and_call}
use Rattle.rf_margin.proofs.bisection.decided.Goals as goal
use Rattle.rf_decide.proofs.CallLaws.{one-before}

pub returns-in_err-plan-clause-calls : goal.returns-in_err-plan-clause-calls
returns-in_err-plan-clause-calls g c = (1, omega arith, and_call no_call c.decide.ensures.asked)

pub returns-in-Plan-clause-calls : goal.returns-in-Plan-clause-calls
returns-in-Plan-clause-calls g c =
    let more = c.bisect.ensures.calls in
    (suc more.0, omega (arith, more.1), one-before c.args.show.now c.decide.ensures.asked more.2)

pub returns-in-Refuted-clause-calls : goal.returns-in-Refuted-clause-calls
returns-in-Refuted-clause-calls g c = (1, omega arith, and_call no_call c.decide.ensures.asked)

pub returns-in-Spent-clause-calls : goal.returns-in-Spent-clause-calls
returns-in-Spent-clause-calls g c = (1, omega arith, and_call no_call c.decide.ensures.asked)
