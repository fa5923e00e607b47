use Rattle.std.proofs.Common.{arith, ◌<◌, length}
use Rattle.std.proofs.lemmas.Result.{on_ok_weaker}
use Rattle.rf_show.specs.Case.{case_of}
use Rattle.rf_checker.proofs.EarlierLemmas.{below_at, met_gone}
use Rattle.rf_checker.proofs.earlier.take_met.Goals as goal

pub narrow-requires-clause-below : goal.narrow-requires-clause-below
narrow-requires-clause-below c = below_at (case_of c.args.show.now) c.args.sets.now c.args.cond.carrier _ c.count.result c.requires.box_for c.requires.fits.known c.count.ensures.value

pub returns-clause-effect : goal.returns-clause-effect
returns-clause-effect c =
    let low : c.args.cond.carrier < length c.args.sets.now = omega (arith, c.requires.box_for.full, c.requires.fits.known) in
    on_ok_weaker c.narrow.result (met_gone c.args.sets.now c.args.cond c.narrow.new.set _ low) c.narrow.ensures
