use Rattle.std.proofs.Common.{arith}
use Rattle.rf_propagate.proofs.LineLaws.{clear_more, clear_same}
use Rattle.rf_propagate.proofs.line.clear.Goals as goal

pub loop-carrier-preserved-then-size-eq0 : goal.loop-carrier-preserved-then-size-eq0
loop-carrier-preserved-then-size-eq0 c = clear_same c.args.sets.now c.loop-carrier.sets c.loop-carrier.carrier c.size-size.result c.loop-carrier.invariant c.size-size.ensures (omega arith)

pub loop-carrier-preserved : goal.loop-carrier-preserved
loop-carrier-preserved c =
    clear_more c.args.sets.now c.loop-carrier.sets c.remove_range.new.self c.loop-carrier.carrier c.size-size.result c.loop-carrier.invariant c.size-size.ensures
    c.remove_range.ensures.sizes c.remove_range.ensures.has
