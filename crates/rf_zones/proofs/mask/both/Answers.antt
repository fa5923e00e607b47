use Rattle.rf_zones.proofs.MaskLaws.{has_both}
use Rattle.rf_zones.proofs.mask.both.Goals as goal

pub returns : goal.returns
returns c = λ k. has_both c.args.a c.args.b k
