use Rattle.std.proofs.Common.{T, ◌≡◌, ◌∙◌, ◌<◌, ◌≤◌, ◌^◌, ℕ, ℤ, pos, ◌+ℤ◌, ◌-ℤ◌, ◌*ℤ◌, ◌<ℤ◌, ◌≤ℤ◌, ◌↔◌, unsigned_abs, List, length, arith, to_z, of_z, w64, sym, ap, subst, slice_index}
use Rattle.std.specs.Int.Signed.{lt_z_yes}
use Rattle.rf_terms.proofs.FormLaws.{told}
use Rattle.rf_audit.specs.Tables.{IsWindow}
use Rattle.rf_audit.proofs.Forms.{near-between, mirrored, negated, lowered}
use Rattle.rf_audit.proofs.window.window.Goals as goal

-- the window of the form that the code reads, where that lies as near to 0
window-is : (freqs : List ℕ) (rest multiple r m z : ℤ) (margin from end : ℕ) → ((f : ℕ) → unsigned_abs (r +ℤ (m *ℤ pos f)) ≡ unsigned_abs (rest +ℤ (multiple *ℤ pos f)))
    → z ≡ pos margin → margin < 2 ^ 32
    → ((k : ℕ) → k < from → (r +ℤ (m *ℤ pos (slice_index freqs k))) ≤ℤ to_z w64 (of_z w64 (pos 0 -ℤ to_z w64 (of_z w64 z))))
    → ((k : ℕ) → from ≤ k → k < length freqs → to_z w64 (of_z w64 (pos 0 -ℤ to_z w64 (of_z w64 z))) <ℤ (r +ℤ (m *ℤ pos (slice_index freqs k))))
    → ((k : ℕ) → k < end → (r +ℤ (m *ℤ pos (slice_index freqs k))) ≤ℤ to_z w64 (of_z w64 (to_z w64 (of_z w64 z) -ℤ pos 1)))
    → ((k : ℕ) → end ≤ k → k < length freqs → to_z w64 (of_z w64 (to_z w64 (of_z w64 z) -ℤ pos 1)) <ℤ (r +ℤ (m *ℤ pos (slice_index freqs k))))
    → IsWindow freqs multiple rest margin (from, end)
window-is freqs rest multiple r m z margin from end same e small before after before2 after2 k known =
    let few : unsigned_abs z ≤ margin = omega (arith, ap unsigned_abs e) in
    subst (λ n. (n < margin) ↔ ((from ≤ k) × (k < end))) (same (slice_index freqs k)) (near-between (length freqs) (λ (j : ℕ). r +ℤ (m *ℤ pos (slice_index freqs j))) margin _ _ from end
    (negated z margin few (omega (arith, small)) ∙ ap (λ (n : ℤ). pos 0 -ℤ n) e) (lowered z margin few (omega (arith, small)) ∙ ap (λ (n : ℤ). n -ℤ pos 1) e)
    before after before2 after2 k known)

pub returns-then-multiple-lt0-clause-window : goal.returns-then-multiple-lt0-clause-window
returns-then-multiple-lt0-clause-window c =
    let told_m : to_z w64 (of_z w64 c.args.multiple) ≡ c.args.multiple = told c.args.multiple (let few = c.requires.multiple.1 in omega (arith, few)) in
    let below : c.args.multiple <ℤ pos 0 = subst (λ (z : ℤ). z <ℤ pos 0) told_m (lt_z_yes (subst T (sym c.if-multiple-lt0.true) tt)) in
    window-is c.args.freqs.now c.args.rest c.args.multiple _ _ c.from-margin.result c.args.margin c.first_past.result c.first_past-then-multiple-lt0.result
    (λ f. rw (negated c.args.rest 640000000 c.requires.rest (omega arith), negated c.args.multiple 8 c.requires.multiple.1 (omega arith)) (mirrored c.args.rest c.args.multiple f below))
    c.from-margin.ensures (omega (arith, c.ranges.margin))
    c.first_past.ensures.before c.first_past.ensures.after c.first_past-then-multiple-lt0.ensures.before c.first_past-then-multiple-lt0.ensures.after

pub returns-else-multiple-lt0-clause-window : goal.returns-else-multiple-lt0-clause-window
returns-else-multiple-lt0-clause-window c =
    window-is c.args.freqs.now c.args.rest c.args.multiple _ _ c.from-margin.result c.args.margin c.first_past-else-multiple-lt0.result c.first_past-else-multiple-lt0-2.result
    (λ f. ap (λ (z : ℤ). unsigned_abs (z +ℤ (to_z w64 (of_z w64 c.args.multiple) *ℤ pos f))) (told c.args.rest (let few = c.requires.rest in omega (arith, few)))
    ∙ ap (λ (z : ℤ). unsigned_abs (c.args.rest +ℤ (z *ℤ pos f))) (told c.args.multiple (let few = c.requires.multiple.1 in omega (arith, few))))
    c.from-margin.ensures (omega (arith, c.ranges.margin)) c.first_past-else-multiple-lt0.ensures.before c.first_past-else-multiple-lt0.ensures.after
    c.first_past-else-multiple-lt0-2.ensures.before c.first_past-else-multiple-lt0-2.ensures.after
