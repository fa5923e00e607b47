use Rattle.std.proofs.Common.{arith, ◌+◌}
use Rattle.rf_tighter.proofs.laws.one_wider_keeps_plans.Goals as goal

pub returns : goal.returns
returns c = λ show extra plan is. c.raising_keeps_plans.ensures show extra (extra + 1) plan (omega arith) is
