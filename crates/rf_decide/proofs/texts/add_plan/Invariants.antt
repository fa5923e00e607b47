use Rattle.std.proofs.Common.{◌≡◌, string_bytes}
use Rattle.rf_decide.proofs.PlanTexts.{lines_below}
use Rattle.rf_decide.proofs.texts.add_plan.Given as goal

abbrev pub invariant-loop-carrier : goal.invariant-loop-carrier
invariant-loop-carrier l = string_bytes l.lines ≡ lines_below l.show l.plan l.carrier
