use Rattle.rf_core.proofs.EnoughLemmas.{not-spent}
use Rattle.rf_core.proofs.laws.enough_is_not_spent.Goals as goal

pub returns : goal.returns
returns c = λ show n keep log dropped few is. not-spent c.case_is_asked.ensures c.more_locks_are_tighter.ensures c.budget_is_enough.ensures show n keep log dropped few is
