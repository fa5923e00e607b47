use Rattle.std.proofs.Common.{arith}
use Rattle.std.proofs.lemmas.Grind.{common_steps}
use Rattle.rf_zones.proofs.slices.add_starts.Goals as goal

pub loop-interval-preserved : goal.loop-interval-preserved
loop-interval-preserved c = grind (arith, common_steps)
