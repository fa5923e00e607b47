use Rattle.std.proofs.Common.{length}
use Rattle.rf_props.proofs.flags.+are_flagged.Given as goal

abbrev pub decreases-are_flagged : goal.decreases-are_flagged
decreases-are_flagged l = length l.carriers.now
