use Rattle.rf_plans.proofs.Instances.{instance_same}
use Rattle.rf_plans.proofs.laws.instances_agree.Goals as goal

pub returns : goal.returns
returns c = λ show kind roles. instance_same show (c.case_is_asked.ensures show) kind roles
