use Rattle.rf_terms.proofs.KindLaws.{all_laws}
use Rattle.rf_terms.proofs.laws.kinds_keep_their_laws.Goals as goal

pub returns : goal.returns
returns c = all_laws
