use Rattle.std.proofs.Common.{arith}
use Rattle.rf_show.specs.Case.{case_of}
use Rattle.rf_checker.proofs.BoxLemmas.{read_at, throughout_in, throughout_out}
use Rattle.rf_checker.proofs.boxes.throughout.Goals as goal

pub returns-then-cond : goal.returns-then-cond
returns-then-cond c = throughout_in (case_of c.args.show.now) c.args.sets.now c.args.cond.now c.is_within.result c.index-sets-cond.result c.requires.box_for
    (read_at c.args.sets.now c.args.cond.now.carrier c.index-sets-cond.result c.index-sets-cond.is (omega (arith, c.requires.fits.known, c.requires.box_for.full))) c.if-cond.true c.is_within.ensures

pub returns-else-cond : goal.returns-else-cond
returns-else-cond c = throughout_out (case_of c.args.show.now) c.args.sets.now c.args.cond.now c.misses.result c.index-sets-cond.result c.requires.box_for
    (read_at c.args.sets.now c.args.cond.now.carrier c.index-sets-cond.result c.index-sets-cond.is (omega (arith, c.requires.fits.known, c.requires.box_for.full))) c.if-cond.false c.misses.ensures
