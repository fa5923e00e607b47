use Rattle.rf_tighter.proofs.LockedLaws.{locked-all}
use Rattle.rf_tighter.proofs.lock_laws.all_locks_are_kept.Goals as goal

pub returns : goal.returns
returns c = λ show keep all. locked-all show keep all
