use Rattle.std.proofs.Common.{T, true, false, ◌≡◌, ◌∙◌, ◌<◌, ◌≤◌, ◌+◌, ◌-◌, ◌/◌, ℕ, ℤ, pos, ◌+ℤ◌, ◌*ℤ◌, ◌≤ℤ◌, ◌<ℤ◌, unsigned_abs, length, arith, to_z, of_z, w64, sym, ap, subst, get_or}
use Rattle.std.specs.Int.Signed.{le_z, le_z_yes}
use Rattle.std.proofs.lemmas.Int.{by_lt_z}
use Rattle.rf_terms.proofs.FormLaws.{abs-mul, step-small, told}
use Rattle.rf_audit.proofs.Forms.{still-low, still-high}
use Rattle.rf_audit.proofs.window.first_past.Goals as goal

sum-is : (s m r : ℤ) (f : ℕ) → unsigned_abs s ≤ 640000000 → unsigned_abs m ≤ 8 → r ≡ pos f → f ≤ 10000000
    → to_z w64 (of_z w64 (to_z w64 (of_z w64 s) +ℤ to_z w64 (of_z w64 (to_z w64 (of_z w64 m) *ℤ to_z w64 (of_z w64 r))))) ≡ s +ℤ (m *ℤ pos f)
sum-is s m r f hs hm e hf = rw (told s (omega (arith, hs)), told m (omega (arith, hm)), e, told (pos f) (omega (arith, hf)), told (m *ℤ pos f) (omega (arith, abs-mul m f hm hf)))
    (told (s +ℤ (m *ℤ pos f)) (step-small s m f hs hm hf))

pub loop-from-preserved-then-rest-multiple : goal.loop-from-preserved-then-rest-multiple
loop-from-preserved-then-rest-multiple c =
    let middle = c.loop-from.from + (c.loop-from.end - c.loop-from.from) / 2 in
    let low : middle < length c.args.freqs.now = omega (arith, c.loop-from-test.true, c.loop-from.invariant.within) in record {
      order = omega (arith, c.loop-from-test.true);
      within = c.loop-from.invariant.within;
      before = rw (told c.args.multiple (let few = c.requires.multiple in omega (arith, few)), told c.args.rest (let few = c.requires.rest in omega (arith, few)))
          (still-low c.args.freqs.now c.args.rest c.args.multiple (to_z w64 (of_z w64 c.args.bound)) middle c.requires.rising c.requires.above low
          (subst (λ (z : ℤ). z ≤ℤ to_z w64 (of_z w64 c.args.bound)) (sum-is _ _ c.from.result (get_or c.args.freqs.now middle 0) c.requires.rest c.requires.multiple c.from.ensures
          (c.requires.small middle 0 low)) (le_z_yes (subst T (sym c.if-rest-multiple.true) tt))));
      after = c.loop-from.invariant.after;
    }

pub loop-from-preserved : goal.loop-from-preserved
loop-from-preserved c =
    let middle = c.loop-from.from + (c.loop-from.end - c.loop-from.from) / 2 in
    let low : middle < length c.args.freqs.now = omega (arith, c.loop-from-test.true, c.loop-from.invariant.within) in record {
      order = omega (arith, c.loop-from-test.true);
      within = omega (arith, low);
      before = c.loop-from.invariant.before;
      after = rw (told c.args.multiple (let few = c.requires.multiple in omega (arith, few)), told c.args.rest (let few = c.requires.rest in omega (arith, few)))
          (still-high c.args.freqs.now c.args.rest c.args.multiple (to_z w64 (of_z w64 c.args.bound)) middle c.requires.rising c.requires.above
          (subst (λ (z : ℤ). to_z w64 (of_z w64 c.args.bound) <ℤ z) (sum-is _ _ c.from.result (get_or c.args.freqs.now middle 0) c.requires.rest c.requires.multiple c.from.ensures
          (c.requires.small middle 0 low)) (by_lt_z _ _ (λ more. more) (λ within. absurd (subst T c.if-rest-multiple.false within.le)))));
    }
