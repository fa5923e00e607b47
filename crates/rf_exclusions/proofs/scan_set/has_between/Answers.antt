use Rattle.std.proofs.Common.{◌∙◌, length, le-ltb}
use Rattle.rf_exclusions.proofs.PointLemmas.{first_tells, none_tells}
use Rattle.rf_exclusions.proofs.scan_set.has_between.Goals as goal

pub returns-then-first-points : goal.returns-then-first-points
returns-then-first-points c =
    let first = c.first_from-first in
    first_tells c.args.points.now c.args.low c.args.high first.result c.requires first.ensures.below first.ensures.above c.if-first-points.true

pub returns-else-first-points : goal.returns-else-first-points
returns-else-first-points c =
    let first = c.first_from-first in
    le-ltb first.result (length c.args.points.now) c.if-first-points.false ∙ none_tells c.args.points.now c.args.low c.args.high first.result first.ensures.below c.if-first-points.false
