use Rattle.std.proofs.Common.{◌+◌, not, ◌&&◌, ◌||◌, arith, get_or, set, refl, bit_or, count_ones}
use Rattle.rf_domain.proofs.Bits.{added_bit}
use Rattle.rf_domain.proofs.Swept.{Swept, swept_first, swept_step, swept_bound, swept_bits, swept_count}
use Rattle.rf_domain.proofs.words.fill_range.Goals.{After-lacking}
use Rattle.rf_domain.proofs.words.fill_range.Goals as goal
use mathlib.Core.Bool.{or-false}

pub loop-word-init : goal.loop-word-init
loop-word-init c = swept_first (λ old here. old || here) (λ old here. here && not old) or-false (λ b. refl) c.args.words.now c.args.lo c.args.hi

step : (c : After-lacking) → Swept (λ old here. old || here) (λ old here. here && not old) c.args.words.now
    (set c.loop-word.words c.loop-word.word (bit_or (get_or c.loop-word.words c.loop-word.word 0) c.mask_of-mask.result)) c.args.lo c.args.hi
    (c.loop-word.word + 1) (c.loop-word.added + count_ones (c.lacking.result))
step c =
    let old = get_or c.loop-word.words c.loop-word.word 0 in
    let mask = c.mask_of-mask.result in
    swept_step (λ old here. old || here) (λ old here. here && not old) c.args.words.now c.loop-word.words c.args.lo c.args.hi c.loop-word.word c.loop-word.added
    (bit_or old mask) mask c.lacking.result c.loop-word.invariant (omega arith)
    (λ i below. added_bit old mask i) c.lacking.type_inv
    c.lacking.ensures c.mask_of-mask.ensures

pub loop-word-preserved : goal.loop-word-preserved
loop-word-preserved c = step c

pub overflow_add-added : goal.overflow_add-added
overflow_add-added c =
    omega (arith, swept_bound (λ old here. old || here) (λ old here. here && not old) c.args.words.now _ c.args.lo c.args.hi (c.loop-word.word + 1) _ (step c))

pub returns-clause-bits : goal.returns-clause-bits
returns-clause-bits c =
    swept_bits (λ old here. old || here) (λ old here. here && not old) or-false c.args.words.now c.loop-word.words c.args.lo c.args.hi c.loop-word.word c.loop-word.added
    (omega arith) c.loop-word.invariant

pub returns-clause-added : goal.returns-clause-added
returns-clause-added c =
    swept_count (λ old here. old || here) (λ old here. here && not old) (λ b. refl) c.args.words.now c.loop-word.words c.args.lo c.args.hi c.loop-word.word c.loop-word.added
    (omega arith) c.loop-word.invariant
