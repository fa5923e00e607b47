use Rattle.rf_tighter.proofs.RaisedLemmas.{raised-plan}
use Rattle.rf_tighter.proofs.laws.raising_keeps_plans.Goals as goal

pub returns : goal.returns
returns c = λ show less more plan h is. raised-plan c.case_is_asked.ensures show less more plan h is
