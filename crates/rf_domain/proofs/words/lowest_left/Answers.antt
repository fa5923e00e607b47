use Rattle.std.proofs.Common.{◌≡◌, ℕ, ◌<◌, ◌≤◌, ◌⊎◌, inl, inr, false, arith}
use Rattle.std.proofs.lemmas.Bool.Decides.{nat_tests}
use Rattle.rf_domain.specs.Indices.{between}
use Rattle.rf_domain.proofs.Lowest.{lowest_apart, lowest_after}
use Rattle.rf_domain.proofs.words.lowest_left.Goals as goal

apart : (lo hi first : ℕ) → (first < lo) ⊎ ((lo ≤ first) × (hi < first)) → between lo hi first ≡ false
apart lo hi first (inl early) = grind (arith, nat_tests)
apart lo hi first (inr late) = grind (arith, nat_tests)

pub returns-then-first-lo : goal.returns-then-first-lo
returns-then-first-lo c = λ old lowest bits.
    lowest_apart c.args.size old c.args.words.now c.args.lo c.args.hi c.args.first (apart c.args.lo c.args.hi c.args.first c.then-first-lo.either) lowest bits

pub returns-in-Some : goal.returns-in-Some
returns-in-Some c = λ old lowest bits.
    let found = c.in-Some.ensures in
    lowest_after c.args.size old c.args.words.now c.args.lo c.args.hi c.args.first c.in-Some.k c.if-first-lo.false lowest bits
    (omega (arith, c.requires.padded.clear c.in-Some.k found.here)) (λ some. found.here) (λ j past low. found.least j (omega arith) low)

pub returns-in-None : goal.returns-in-None
returns-in-None c = λ old lowest bits.
    let none = c.in-None.ensures in
    lowest_after c.args.size old c.args.words.now c.args.lo c.args.hi c.args.first c.args.size c.if-first-lo.false lowest bits
    (omega arith) (λ some. absurd (omega (arith, some))) (λ j past low. none j (omega arith))
