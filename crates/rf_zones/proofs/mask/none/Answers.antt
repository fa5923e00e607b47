use Rattle.rf_zones.proofs.MaskLaws.{has_none}
use Rattle.rf_zones.proofs.mask.none.Goals as goal

pub returns : goal.returns
returns c = λ k. has_none k
