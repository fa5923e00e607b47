use Rattle.rf_core.proofs.AnswerLemmas.{can-be-written}
use Rattle.rf_core.proofs.laws.blocked_can_be_written.Goals as goal

pub returns : goal.returns
returns c = λ show n answer is. can-be-written c.case_is_asked.ensures c.plan_is_indexed.ensures c.all_locks_are_kept.ensures c.more_locks_are_tighter.ensures show n answer is
