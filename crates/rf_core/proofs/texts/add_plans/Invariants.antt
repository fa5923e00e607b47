use Rattle.std.proofs.Common.{◌≡◌, ◌++◌, drop}
use Rattle.rf_core.specs.Blocking.{without_lines}
use Rattle.rf_core.proofs.texts.add_plans.Given as goal

abbrev pub invariant-loop-i : goal.invariant-loop-i
invariant-loop-i l = l.text.items ++ without_lines l.show (drop l.i l.set) (drop l.i l.plans) ≡ l.fn.text.items ++ without_lines l.show l.set l.plans
