use Rattle.std.proofs.Common.{arith}
use Rattle.rf_domain.specs.Sets.{has}
use Rattle.rf_propagate.proofs.OpeningLaws.{hold_more, all_held, holds_at}
use Rattle.rf_propagate.proofs.opening.open_from.Goals as goal

pub loop-place-preserved : goal.loop-place-preserved
loop-place-preserved c =
    hold_more (has c.args.domains.now) c.args.conds.now c.args.from c.loop-place.place c.loop-place.invariant
    (holds_at (has c.args.domains.now) c.args.conds.now c.loop-place.place _ (omega arith) c.in_default.ensures)

pub returns : goal.returns
returns c = all_held (has c.args.domains.now) c.args.conds.now c.args.from c.loop-place.place c.loop-place.invariant (omega arith)
