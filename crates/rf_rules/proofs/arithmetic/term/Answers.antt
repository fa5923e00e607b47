use Rattle.std.proofs.Common.{◌≡◌, ◌<◌, ◌^◌, ◌*ℤ◌, unsigned_abs, arith, to_z, of_z, w64}
use Rattle.std.proofs.lemmas.Int.{to_z-of_z}
use Rattle.rf_rules.proofs.FormLemmas.{abs-mul}
use Rattle.rf_rules.proofs.arithmetic.term.Goals as goal
use Rattle.rf_terms.proofs.FormLaws.{told}

-- the product without its conversions
is : (c : goal.Start) → to_z w64 (of_z w64 (to_z w64 (of_z w64 c.args.coefficient) *ℤ to_z w64 (of_z w64 c.args.khz))) ≡ c.args.coefficient *ℤ c.args.khz
is c =
    let a : to_z w64 (of_z w64 c.args.coefficient) ≡ c.args.coefficient = to_z-of_z w64 c.args.coefficient c.ranges.coefficient in
    let b : to_z w64 (of_z w64 c.args.khz) ≡ c.args.khz = to_z-of_z w64 c.args.khz c.ranges.khz in
    let small : unsigned_abs (c.args.coefficient *ℤ c.args.khz) < 2 ^ 63 = omega (arith, abs-mul c.args.coefficient c.args.khz c.requires.coefficient.1 c.requires.khz) in
    rw (a, b) (told (c.args.coefficient *ℤ c.args.khz) small)

pub returns-clause-value : goal.returns-clause-value
returns-clause-value c = is c

pub returns-clause-bound : goal.returns-clause-bound
returns-clause-bound c = rw (is c) (abs-mul c.args.coefficient c.args.khz c.requires.coefficient.1 c.requires.khz)
