use Rattle.std.proofs.Common.{◌+◌, Bool, set, sym, subst, arith}
use Rattle.rf_domain.specs.Sets.{has}
use Rattle.rf_problem.specs.Problem.{case_of}
use Rattle.rf_props.proofs.FlagLemmas.{FlaggedUpTo, flagged_start, flagged_more}
use Rattle.rf_props.proofs.flags.singles_of.Goals as goal

pub loop-carrier-init : goal.loop-carrier-init
loop-carrier-init c = flagged_start (case_of c.args.problem.now) (has c.args.domains.now)

pub loop-carrier-preserved : goal.loop-carrier-preserved
loop-carrier-preserved c =
    subst (λ (b : Bool). FlaggedUpTo (case_of c.args.problem.now) (has c.args.domains.now) (c.loop-carrier.carrier + 1) (set c.loop-carrier.flags c.loop-carrier.carrier b)) (sym c.is_some.ensures)
    (flagged_more (case_of c.args.problem.now) c.args.domains.now c.loop-carrier.carrier c.loop-carrier.flags c.only.result c.requires
    (omega (arith, c.loop-carrier-test.true, c.carriers-carrier-end.ensures.few)) c.only.ensures c.loop-carrier.invariant)
