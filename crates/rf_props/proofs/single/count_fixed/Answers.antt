use Rattle.std.proofs.Common.{arith}
use Rattle.rf_domain.proofs.CountLaws.{count_bound}
use Rattle.rf_props.specs.Sweeps.{has_at_most_one}
use Rattle.rf_props.proofs.SingleLemmas.{fixed_more, fixed_same}
use Rattle.rf_props.proofs.single.count_fixed.Goals as goal

pub overflow_add-fixed : goal.overflow_add-fixed
overflow_add-fixed c = omega (arith, c.loop-carrier.invariant, count_bound (has_at_most_one c.args.trail.now) c.loop-carrier.carrier)

pub loop-carrier-preserved-then-count-gt1 : goal.loop-carrier-preserved-then-count-gt1
loop-carrier-preserved-then-count-gt1 c =
    fixed_same c.args.trail.now c.domains-domains.result.now c.loop-carrier.carrier c.count.result c.loop-carrier.fixed c.domains-domains.ensures.sizes c.domains-domains.ensures.has c.count.ensures
    c.if-count-gt1.true c.loop-carrier.invariant

pub loop-carrier-preserved : goal.loop-carrier-preserved
loop-carrier-preserved c =
    fixed_more c.args.trail.now c.domains-domains.result.now c.loop-carrier.carrier c.count.result c.loop-carrier.fixed c.domains-domains.ensures.sizes c.domains-domains.ensures.has c.count.ensures
    c.if-count-gt1.false c.loop-carrier.invariant
