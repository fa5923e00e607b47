use Rattle.std.proofs.Common.{arith, ◌+◌}
use Rattle.rf_show.specs.Case.{case_of}
use Rattle.rf_show.specs.Raised.{raised}
use Rattle.rf_margin.proofs.laws.nothing_wider_has_a_plan.Goals as goal

pub returns : goal.returns
returns c = λ show n extra plan log is more other less has.
    c.closed_walk_has_no_plan.ensures (case_of (raised show (extra + 1))) log is.2.solved.ends other
    (c.raising_keeps_plans.ensures show (extra + 1) more other (omega (arith, less)) has)
