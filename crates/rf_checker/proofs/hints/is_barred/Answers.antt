use Rattle.std.proofs.Common.{◌∙◌, sym, arith}
use Rattle.rf_show.specs.Case.{case_of}
use Rattle.rf_checker.proofs.hints.is_barred.Goals as goal
use Rattle.rf_log.proofs.BoxLaws.{barred_not, barred_all}

pub returns-then-k-hi : goal.returns-then-k-hi
returns-then-k-hi c = sym (barred_all (case_of c.args.show.now) c.args.c c.args.lo c.args.hi (λ j from to. c.loop-k.invariant j from (omega arith)))

pub returns-then-allows : goal.returns-then-allows
returns-then-allows c = sym (barred_not (case_of c.args.show.now) c.args.c c.args.lo c.args.hi c.loop-k.k (omega (arith, c.requires.index)) (omega arith) (omega arith)
    (sym c.allows.ensures ∙ c.if-allows.true))

pub returns : goal.returns
returns c = sym (barred_all (case_of c.args.show.now) c.args.c c.args.lo c.args.hi (λ j from to. c.loop-k.invariant j from (omega (arith, c.requires.index, c.count-k-end.ensures.value))))
