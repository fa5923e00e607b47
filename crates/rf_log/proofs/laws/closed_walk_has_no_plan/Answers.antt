use Rattle.std.proofs.Common.{[], refl, inl, Some}
use Rattle.rf_log.proofs.Ahead.{walk-sound, nothing-right}
use Rattle.rf_log.proofs.laws.closed_walk_has_no_plan.Goals as goal

pub returns : goal.returns
returns c = λ case log closed plan good. walk-sound case [] (Some []) log plan good (nothing-right case) (inl refl) closed
