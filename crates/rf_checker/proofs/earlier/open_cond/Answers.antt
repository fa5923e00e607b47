use Rattle.std.proofs.Common.{◌∙◌, sym, arith}
use Rattle.rf_show.specs.Case.{case_of}
use Rattle.rf_checker.specs.Boxes.{box_in}
use Rattle.rf_checker.proofs.EarlierLemmas.{two_open}
use Rattle.rf_checker.proofs.earlier.open_cond.Goals as goal

pub returns-then-is_some-clause-value : goal.returns-then-is_some-clause-value
returns-then-is_some-clause-value c = two_open (case_of c.args.show.now) (box_in c.args.sets.now) c.args.conds.now c.loop-cond.cond-index _ c.loop-cond.found (omega arith)
    c.loop-cond.invariant.value (sym c.is_some.ensures ∙ c.if-is_some.true) (sym c.throughout.ensures ∙ c.if-not-throughout.true)
