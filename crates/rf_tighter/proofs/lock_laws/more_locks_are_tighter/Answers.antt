use Rattle.rf_tighter.proofs.LockedLaws.{tighter-locked}
use Rattle.rf_tighter.proofs.lock_laws.more_locks_are_tighter.Goals as goal

pub returns : goal.returns
returns c = λ show fewer more part. tighter-locked c.case_is_asked.ensures show fewer more part
