use Rattle.std.proofs.Common.{◌∙◌, sym, arith}
use Rattle.rf_problem.specs.Problem.{case_of}
use Rattle.rf_props.proofs.CountLemmas.{count_any}
use Rattle.rf_props.proofs.apply.is_barred.Goals as goal
use Rattle.rf_log.proofs.BoxLaws.{barred_not, barred_all}

pub returns-then-k-hi : goal.returns-then-k-hi
returns-then-k-hi c = sym (barred_all (case_of c.args.problem.now) c.args.carrier c.args.lo c.args.hi (λ j from to. c.loop-k.invariant j from (omega arith)))

pub returns-then-allowed : goal.returns-then-allowed
returns-then-allowed c = sym (barred_not (case_of c.args.problem.now) c.args.carrier c.args.lo c.args.hi c.loop-k.k
    (omega (arith, c.requires.range.known, count_any (case_of c.args.problem.now) c.args.carrier)) (omega arith) (omega arith) (sym c.allowed.ensures ∙ c.if-allowed.true))

pub returns : goal.returns
returns c = sym (barred_all (case_of c.args.problem.now) c.args.carrier c.args.lo c.args.hi (λ j from to.
    c.loop-k.invariant j from (omega (arith, c.requires.range.known, count_any (case_of c.args.problem.now) c.args.carrier, c.count-k-end.ensures.value))))
