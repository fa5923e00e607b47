use Rattle.std.proofs.Common.{◌∙◌, sym, ap, not, arith}
use Rattle.rf_log.specs.Box.{has_none}
use Rattle.rf_show.specs.Case.{case_of}
use Rattle.rf_checker.specs.Boxes.{box_in}
use Rattle.rf_checker.proofs.BoxLemmas.{read_at, none_is, dead_at, each_more}
use Rattle.rf_checker.proofs.boxes.is_dead.Goals as goal

pub returns-then-is_empty : goal.returns-then-is_empty
returns-then-is_empty c =
    let is = none_is (case_of c.args.show.now) c.args.sets.now c.loop-set.set-index c.is_empty.result c.set-item.result c.requires
    (read_at c.args.sets.now c.loop-set.set-index c.set-item.result c.set-item.is (omega arith)) c.is_empty.ensures in
    sym (dead_at (case_of c.args.show.now) (box_in c.args.sets.now) c.loop-set.set-index (omega (arith, c.requires.full)) (is ∙ c.if-is_empty.true))

pub loop-set-preserved : goal.loop-set-preserved
loop-set-preserved c =
    let is = none_is (case_of c.args.show.now) c.args.sets.now c.loop-set.set-index c.is_empty.result c.set-item.result c.requires
    (read_at c.args.sets.now c.loop-set.set-index c.set-item.result c.set-item.is (omega arith)) c.is_empty.ensures in
    each_more c.loop-set.set-index (λ i. not (has_none (case_of c.args.show.now) (box_in c.args.sets.now) i)) c.loop-set.invariant (ap not (is ∙ c.if-is_empty.false))
