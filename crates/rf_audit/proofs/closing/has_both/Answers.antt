use Rattle.std.proofs.Common.{◌∙◌, arith, []}
use Rattle.std.proofs.lemmas.List.{get_or_default}
use Rattle.rf_audit.proofs.Sides.{no-left, tells-sides}
use Rattle.rf_audit.proofs.closing.has_both.Goals as goal

pub returns-in-None : goal.returns-in-None
returns-in-None c = no-left c.args.left.now.sets.items c.args.side c.index-marks.result.now
    (c.index-marks.ensures ∙ get_or_default _ c.args.side.carrier c.index-marks.result.now [] (omega (arith, c.requires.known, c.requires.sized.full))) c.requires.inside c.in-None.ensures

pub returns-in-Some : goal.returns-in-Some
returns-in-Some c = tells-sides c.args.left.now.sets.items c.args.side c.index-marks.result.now
    (c.index-marks.ensures ∙ get_or_default _ c.args.side.carrier c.index-marks.result.now [] (omega (arith, c.requires.known, c.requires.sized.full)))
    c.requires.inside _ c.has_outside.result c.in-Some.ensures c.has_outside.ensures
