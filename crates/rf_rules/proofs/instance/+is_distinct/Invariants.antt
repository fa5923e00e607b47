use Rattle.std.proofs.Common.{length}
use Rattle.rf_rules.proofs.instance.+is_distinct.Given as goal

abbrev pub decreases-is_distinct : goal.decreases-is_distinct
decreases-is_distinct l = length l.t.now
