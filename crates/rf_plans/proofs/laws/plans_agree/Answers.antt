use Rattle.rf_plans.proofs.Planned.{plan_same}
use Rattle.rf_plans.proofs.laws.plans_agree.Goals as goal

pub returns : goal.returns
returns c = λ show plan. plan_same show plan (c.case_is_asked.ensures show)
