use Rattle.std.proofs.Common.{arith}
use Rattle.rf_zones.specs.Masks.{mask_width}
use Rattle.rf_zones.proofs.MaskLaws.{has_ones}
use Rattle.rf_zones.proofs.mask.all.Goals as goal

pub returns : goal.returns
returns c = λ k within. has_ones mask_width k (omega (arith, within))
