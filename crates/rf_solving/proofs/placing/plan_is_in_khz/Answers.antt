use Rattle.rf_solving.proofs.PlacingLaws.{in_khz}
use Rattle.rf_solving.proofs.placing.plan_is_in_khz.Goals as goal

pub returns : goal.returns
returns c = λ show plan all is. in_khz show plan (c.case_is_asked.ensures show) all is
