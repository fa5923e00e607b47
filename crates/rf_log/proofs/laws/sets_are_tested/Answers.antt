use Rattle.rf_log.proofs.SetLemmas.{sets_tested}
use Rattle.rf_log.proofs.laws.sets_are_tested.Goals as goal

pub returns : goal.returns
returns c = λ test count carriers of known distinct some few. sets_tested test count carriers of known distinct some few
