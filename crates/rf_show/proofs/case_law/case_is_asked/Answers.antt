use Rattle.rf_show.proofs.CaseLemmas.{agree}
use Rattle.rf_show.proofs.case_law.case_is_asked.Goals as goal

pub returns : goal.returns
returns c = λ show. agree c.sets_are_tested.ensures show
