use Rattle.rf_tighter.proofs.RaisedLemmas.{choice-same}
use Rattle.rf_tighter.proofs.laws.raising_keeps_allowed.Goals as goal

pub returns : goal.returns
returns c = λ show extra. choice-same c.case_is_asked.ensures show extra
