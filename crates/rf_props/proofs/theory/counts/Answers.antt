use Rattle.std.proofs.Common.{arith}
use Rattle.rf_problem.specs.Problem.{case_of}
use Rattle.rf_props.proofs.CountLemmas.{upto_none, upto_more, upto_all, upto_counts}
use Rattle.rf_props.proofs.theory.counts.Goals as goal

pub loop-carrier-init : goal.loop-carrier-init
loop-carrier-init c = upto_none (case_of c.args.problem.now) _ c.new-counts.ensures.items

pub loop-carrier-preserved : goal.loop-carrier-preserved
loop-carrier-preserved c =
    upto_more (case_of c.args.problem.now) c.loop-carrier.carrier c.count.result c.loop-carrier.counts.items c.push.new.self.items c.loop-carrier.invariant
    (omega (arith, c.carriers-carrier-end.ensures.value)) c.count.ensures.value (omega (arith, c.count.ensures.few)) c.in_ok-push.ensures.items

pub returns-clause-value : goal.returns-clause-value
returns-clause-value c =
    upto_all (case_of c.args.problem.now) c.loop-carrier.counts.items c.loop-carrier.carrier c.loop-carrier.invariant (omega (arith, c.carriers-carrier-end.ensures.value))

pub returns-clause-small : goal.returns-clause-small
returns-clause-small c =
    upto_counts (case_of c.args.problem.now) c.loop-carrier.counts.items c.loop-carrier.carrier c.loop-carrier.invariant (omega (arith, c.carriers-carrier-end.ensures.value))
    (omega (arith, c.carriers-carrier-end.ensures.value, c.carriers-carrier-end.ensures.few))
