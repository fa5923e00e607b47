use Rattle.rf_domain.proofs.Bits.{cleared_bit}
use Rattle.rf_domain.proofs.words.lacking.Goals as goal

pub returns : goal.returns
returns c = cleared_bit c.args.mask c.args.word c.ranges.word.fits
