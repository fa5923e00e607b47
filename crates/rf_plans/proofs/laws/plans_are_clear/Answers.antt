use Rattle.rf_plans.proofs.Placed.{standing_clear}
use Rattle.rf_plans.proofs.laws.plans_are_clear.Goals as goal

pub returns : goal.returns
returns c = λ show plan. standing_clear show plan (c.case_is_asked.ensures show)
