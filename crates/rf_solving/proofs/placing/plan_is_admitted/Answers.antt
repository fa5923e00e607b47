use Rattle.rf_solving.proofs.PlacingLaws.{admitted}
use Rattle.rf_solving.proofs.placing.plan_is_admitted.Goals as goal

pub returns : goal.returns
returns c = λ show plan is. admitted show plan (c.case_is_asked.ensures show) is
