use Rattle.std.proofs.Common.{◌∙◌, sym, ap, arith, Some}
use Rattle.rf_log.specs.Hints.{conds_in}
use Rattle.rf_checker.proofs.EarlierLemmas.{nogood_zero, nogood_past, nogood_is, conds_none}
use Rattle.rf_checker.proofs.earlier.nogood.Goals as goal
use Rattle.rf_checker.proofs.earlier.nogood.Goals.{then-number-eq0-via-then-number-eq0, then-number-eq0-via-else-number-eq0+then-lines-number}

pub returns-then-number-eq0 : goal.returns-then-number-eq0
returns-then-number-eq0 c = elim c.then-number-eq0.branch [
  | then-number-eq0-via-then-number-eq0 w ↦ nogood_zero c.args.lines.now c.args.number (omega arith)
  | then-number-eq0-via-else-number-eq0+then-lines-number w ↦ nogood_past c.args.lines.now c.args.number (omega arith)
]

pub returns-in-Nogood : goal.returns-in-Nogood
returns-in-Nogood c = ap Some c.as_slice.ensures
    ∙ sym (nogood_is c.args.lines.now c.args.number c.index-lines-number.result c.if-number-eq0.false c.if-lines-number.false c.index-lines-number.is ∙ ap conds_in c.in-Nogood.is)

pub returns-in_default : goal.returns-in_default
returns-in_default c = conds_none c.index-lines-number.result c.in_default.not-Nogood
    ∙ sym (nogood_is c.args.lines.now c.args.number c.index-lines-number.result c.if-number-eq0.false c.if-lines-number.false c.index-lines-number.is)
