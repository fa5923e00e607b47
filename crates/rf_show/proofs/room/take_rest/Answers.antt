use Rattle.std.proofs.Common.{arith}
use Rattle.std.proofs.lemmas.Grind.{common_steps}
use Rattle.rf_show.proofs.room.take_rest.Goals as goal

pub loop-items-preserved : goal.loop-items-preserved
loop-items-preserved g c = grind (arith, common_steps)
