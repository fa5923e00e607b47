use Rattle.std.proofs.Common.{[], length, refl, ap, arith}
use Rattle.rf_spares.proofs.ListLemmas.{fill-map}
use Rattle.rf_spares.proofs.crowd.times.Goals as goal

pub loop-i-preserved : goal.loop-i-preserved
loop-i-preserved c = fill-map (λ x. x.times) c.carriers-carrier-items.result.now c.loop-i.times 96 c.loop-i.i [] c.carrier-item.result.times c.carrier-item.result c.loop-i.invariant
    c.loop-i-test.true
    (omega (arith, ap length c.carriers-carrier-items.ensures.value, c.carriers-carrier-items.ensures.few)) c.carrier-item.is refl
