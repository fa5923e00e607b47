use Rattle.rf_show.specs.Case.{case_of}
use Rattle.rf_tighter.specs.Locked.{locked_to}
use Rattle.rf_tighter.proofs.lock_laws.fewer_locks_keep_plans.Goals as goal

pub returns : goal.returns
returns c = λ show fewer more plan part is.
    c.tighter_case_keeps_plans.ensures (case_of (locked_to show fewer)) (case_of (locked_to show more)) plan (c.more_locks_are_tighter.ensures show fewer more part) is
