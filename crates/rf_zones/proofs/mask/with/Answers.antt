use Rattle.std.proofs.Common.{arith}
use Rattle.rf_zones.specs.Masks.{mask_width}
use Rattle.rf_zones.proofs.MaskLaws.{has_with}
use Rattle.rf_zones.proofs.mask.with.Goals as goal

pub returns : goal.returns
returns c = λ k. has_with mask_width c.args.mask c.args.carrier k (omega (arith, c.requires))
