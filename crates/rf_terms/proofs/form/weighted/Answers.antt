use Rattle.std.proofs.Common.{◌≡◌, ◌≤◌, ◌<◌, ◌^◌, ◌+◌, ℤ, pos, ◌+ℤ◌, ◌*ℤ◌, unsigned_abs, map, take, get_or, arith, to_z, of_z, w64, ap, sym, ◌∙◌, add-one}
use Rattle.std.proofs.lemmas.Int.{fits_signed_from_abs}
use Rattle.rf_terms.specs.Forms.{form}
use Rattle.rf_terms.proofs.FormLaws.{form-take-bound, form-more, step-is, step-small, told}
use Rattle.rf_terms.proofs.form.weighted.Goals as goal

-- the sum so far, and with one role more
small : (c : goal.After-sum-1) → unsigned_abs (to_z w64 c.loop-i.sum-bits) ≤ 640000000
small c = rw c.loop-i.invariant (form-take-bound c.args.coefficients.now c.args.freqs.now c.loop-i.i c.requires.small c.requires.freqs c.requires.few)

next : (c : goal.After-sum-1) →
    (to_z w64 c.loop-i.sum-bits +ℤ to_z w64 (of_z w64 (to_z w64 (of_z w64 (get_or c.args.coefficients.now c.loop-i.i (pos 0))) *ℤ to_z w64 (of_z w64 c.from.result))))
    ≡ to_z w64 c.loop-i.sum-bits +ℤ (get_or c.args.coefficients.now c.loop-i.i (pos 0) *ℤ pos (get_or c.args.freqs.now c.loop-i.i 0))
next c = step-is (to_z w64 c.loop-i.sum-bits) (get_or c.args.coefficients.now c.loop-i.i (pos 0)) c.from.result (get_or c.args.freqs.now c.loop-i.i 0)
    (c.requires.small c.loop-i.i (pos 0) (omega arith)).1 c.from.ensures (c.requires.freqs c.loop-i.i 0 (omega arith))

fits : (c : goal.After-sum-1) → unsigned_abs (to_z w64 c.loop-i.sum-bits +ℤ (get_or c.args.coefficients.now c.loop-i.i (pos 0) *ℤ pos (get_or c.args.freqs.now c.loop-i.i 0))) < 2 ^ 63
fits c = step-small (to_z w64 c.loop-i.sum-bits) (get_or c.args.coefficients.now c.loop-i.i (pos 0)) (get_or c.args.freqs.now c.loop-i.i 0)
    (small c) (c.requires.small c.loop-i.i (pos 0) (omega arith)).1 (c.requires.freqs c.loop-i.i 0 (omega arith))

pub overflow_add-sum : goal.overflow_add-sum
overflow_add-sum c = rw (next c) (fits_signed_from_abs w64 _ (fits c))

pub loop-i-preserved : goal.loop-i-preserved
loop-i-preserved c =
    let i = c.loop-i.i in
    let ms = c.args.coefficients.now in
    let fs = c.args.freqs.now in
    let more : form (take (i + 1) ms) (map pos (take (i + 1) fs)) ≡ form (take i ms) (map pos (take i fs)) +ℤ (get_or ms i (pos 0) *ℤ pos (get_or fs i 0)) =
    rw add-one (form-more ms fs i (pos 0) 0 (omega arith) (omega arith)) in
    ap (λ (k : ℤ). to_z w64 (of_z w64 k)) (next c) ∙ told _ (fits c) ∙ ap (λ (k : ℤ). k +ℤ (get_or ms i (pos 0) *ℤ pos (get_or fs i 0))) c.loop-i.invariant ∙ sym more

pub returns-clause-bound : goal.returns-clause-bound
returns-clause-bound c = rw c.loop-i.invariant (form-take-bound c.args.coefficients.now c.args.freqs.now c.loop-i.i c.requires.small c.requires.freqs c.requires.few)
