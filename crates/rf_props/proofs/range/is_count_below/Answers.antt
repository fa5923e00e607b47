use Rattle.std.proofs.Common.{◌∙◌, ◌-◌, ◌<◌, get_or, sym, arith, leb-true, leb-false}
use Rattle.rf_props.proofs.RangeLemmas.{below_at}
use Rattle.rf_props.proofs.range.is_count_below.Goals as goal
use Rattle.rf_props.proofs.range.is_count_below.Goals.{then-count-gt0, else-count-gt0}

pub returns-then-count-freqs-2 : goal.returns-then-count-freqs-2
returns-then-count-freqs-2 c = λ _. below_at c.args.freqs.now c.args.number c.args.count c.requires.rising (omega arith) last (λ more. absurd (omega arith))
  where
    last : 0 < c.args.count → get_or c.args.freqs.now (c.args.count - 1) 0 < c.args.number
    last some = elim c.if-count-gt0.branch [
      | then-count-gt0 w ↦ leb-false _ _ (sym w.value-is ∙ c.if-freqs-count.false)
      | else-count-gt0 w ↦ absurd (omega (arith, w.if-count-gt0))
    ]

pub returns-else-count-freqs-2 : goal.returns-else-count-freqs-2
returns-else-count-freqs-2 c = λ next. below_at c.args.freqs.now c.args.number c.args.count c.requires.rising (omega arith) last (λ more. leb-true _ _ next)
  where
    last : 0 < c.args.count → get_or c.args.freqs.now (c.args.count - 1) 0 < c.args.number
    last some = elim c.if-count-gt0.branch [
      | then-count-gt0 w ↦ leb-false _ _ (sym w.value-is ∙ c.if-freqs-count.false)
      | else-count-gt0 w ↦ absurd (omega (arith, w.if-count-gt0))
    ]
