use Rattle.rf_zones.proofs.MaskLaws.{has_either}
use Rattle.rf_zones.proofs.mask.either.Goals as goal

pub returns : goal.returns
returns c = λ k. has_either c.args.a c.args.b k
