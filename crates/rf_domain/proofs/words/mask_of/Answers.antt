use Rattle.std.proofs.Common.{◌∙◌, ◌-◌, ◌*◌, arith}
use Rattle.rf_domain.proofs.Bits.{mask_bit, between_shift}
use Rattle.rf_domain.proofs.words.mask_of.Goals as goal

pub returns : goal.returns
returns c = λ i here.
    let base = 64 * c.args.word in
    mask_bit (c.max.result - base) (c.min.result - base) i (omega arith) (omega arith) here
    ∙ rw (c.max.ensures, c.min.ensures) (between_shift base c.args.lo c.args.hi i (omega arith) (omega arith) here)
