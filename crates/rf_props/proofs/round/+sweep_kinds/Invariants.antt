use Rattle.std.proofs.Common.{length}
use Rattle.rf_props.proofs.round.+sweep_kinds.Given as goal

abbrev pub decreases-sweep_kinds : goal.decreases-sweep_kinds
decreases-sweep_kinds l = length l.kinds.now
