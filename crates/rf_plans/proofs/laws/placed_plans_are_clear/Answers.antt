use Rattle.rf_plans.proofs.Placed.{placed_clear}
use Rattle.rf_plans.proofs.laws.placed_plans_are_clear.Goals as goal

pub returns : goal.returns
returns c = λ show new plan. placed_clear show new plan (c.case_is_asked.ensures show)
