use Rattle.std.proofs.Common.{◌+◌, not, ◌&&◌, arith, get_or, set, w64, bit_and, count_ones}
use Rattle.std.specs.Int.{bit_not}
use Rattle.std.proofs.lemmas.Nat.{and_le_r}
use Rattle.rf_domain.proofs.Bits.{cleared_bit, and_idle}
use Rattle.rf_domain.proofs.Swept.{Swept, swept_first, swept_step, swept_bound, swept_bits, swept_count, picked_set}
use Rattle.rf_domain.proofs.words.clear_range.Goals.{After-mask_of-mask}
use Rattle.rf_domain.proofs.words.clear_range.Goals as goal
use mathlib.Core.Bool.{and-false}

pub loop-word-init : goal.loop-word-init
loop-word-init c = swept_first (λ old here. old && not here) (λ old here. old && here) and_idle and-false c.args.words.now c.args.lo c.args.hi

step : (c : After-mask_of-mask) → Swept (λ old here. old && not here) (λ old here. old && here) c.args.words.now
    (set c.loop-word.words c.loop-word.word (bit_and (get_or c.loop-word.words c.loop-word.word 0) (bit_not w64 c.mask_of-mask.result))) c.args.lo c.args.hi
    (c.loop-word.word + 1) (c.loop-word.removed + count_ones (bit_and (get_or c.loop-word.words c.loop-word.word 0) c.mask_of-mask.result))
step c =
    let old = get_or c.loop-word.words c.loop-word.word 0 in
    let mask = c.mask_of-mask.result in
    swept_step (λ old here. old && not here) (λ old here. old && here) c.args.words.now c.loop-word.words c.args.lo c.args.hi c.loop-word.word c.loop-word.removed
    (bit_and old (bit_not w64 mask)) mask (bit_and old mask) c.loop-word.invariant (omega arith)
    (cleared_bit old mask c.mask_of-mask.type_inv) (omega (arith, and_le_r old mask, c.mask_of-mask.type_inv))
    (λ i below. picked_set old mask i) c.mask_of-mask.ensures

pub loop-word-preserved : goal.loop-word-preserved
loop-word-preserved c = step c

pub overflow_add-removed : goal.overflow_add-removed
overflow_add-removed c =
    omega (arith, swept_bound (λ old here. old && not here) (λ old here. old && here) c.args.words.now _ c.args.lo c.args.hi (c.loop-word.word + 1) _ (step c))

pub returns-clause-bits : goal.returns-clause-bits
returns-clause-bits c =
    swept_bits (λ old here. old && not here) (λ old here. old && here) and_idle c.args.words.now c.loop-word.words c.args.lo c.args.hi c.loop-word.word c.loop-word.removed
    (omega arith) c.loop-word.invariant

pub returns-clause-removed : goal.returns-clause-removed
returns-clause-removed c =
    swept_count (λ old here. old && not here) (λ old here. old && here) and-false c.args.words.now c.loop-word.words c.args.lo c.args.hi c.loop-word.word c.loop-word.removed
    (omega arith) c.loop-word.invariant
