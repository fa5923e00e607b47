use Rattle.rf_tighter.proofs.RaisedLemmas.{raised-none}
use Rattle.rf_tighter.proofs.laws.raised_by_none.Goals as goal

pub returns : goal.returns
returns c = λ show. raised-none show
