use Rattle.std.proofs.Common.{◌≡◌, ◌≢◌, ℕ, suc, zero, ◌+◌, ◌-◌, ◌*◌, ◌/◌, ◌<◌, ◌≤◌, refl, ap, ◌∙◌, add-one, arith, inl, inr}
use Rattle.std.proofs.lemmas.Bool.{cases_lt, lt-ltb, le-ltb}
use Rattle.std.proofs.lemmas.Grind.{common_steps}
use Rattle.std.proofs.Math.Nat.{mul-suc, suc-mul}
use Rattle.rf_zones.specs.Zones.{pairs, pair_place}
use Rattle.rf_zones.specs.declared.couplings.TheConstants.{MAX_PAIRS}
use Rattle.rf_zones.specs.declared.zone_names.TheConstants.{MAX_ZONES}

pub pairs-next : (n : ℕ) → pairs (n + 1) ≡ pairs n + n
unfolding pairs
pairs-next n = rw add-one refl

pairs-twice : (n : ℕ) → 2 * pairs (suc n) ≡ suc n * n
unfolding pairs
pairs-twice zero = refl
pairs-twice (suc n) = grind (arith, common_steps, pairs-twice n, mul-suc, suc-mul)

pub pairs_is : (n : ℕ) → n * (n - 1) / 2 ≡ pairs n
unfolding pairs
pairs_is zero = refl
pairs_is (suc n) =
    let less : suc n - 1 ≡ n = omega arith in
    ap (λ k. suc n * k / 2) less ∙ omega (arith, pairs-twice n)

-- more zones make more pairs
pub pairs-rise : (m n : ℕ) → m ≤ n → pairs m ≤ pairs n
unfolding pairs
pairs-rise zero zero h = omega arith
pairs-rise (suc m) zero h = absurd (omega arith)
pairs-rise m (suc n) h = elim (cases_lt n m) [
  | inl above ↦ let same : m ≡ suc n = omega arith in rw same (omega arith)
  | inr below ↦ omega (arith, pairs-rise m n below)
]

-- a pair of zones below n stands among the pairs of n zones
pub place_within : (a b n : ℕ) → a < b → b < n → pairs b + a < pairs n
unfolding pairs
place_within a b n low high = omega (arith, pairs-rise (suc b) n high)

-- there is room for the pairs of all zones
pub pairs_fit : (n : ℕ) → n ≤ MAX_ZONES → pairs n ≤ MAX_PAIRS
unfolding pairs
pairs_fit n h = pairs-rise n MAX_ZONES h

pub before_last : (n : ℕ) → 1 ≤ n → n - 1 ≤ pairs n
unfolding pairs
before_last zero h = absurd (omega arith)
before_last (suc n) h = omega arith

-- the pair of two different zones below n stands among the pairs of n zones
pub pair_within : (a b n : ℕ) → a < n → b < n → a ≢ b → pair_place a b < pairs n
pair_within a b n low high apart = elim (cases_lt a b) [
  | inl below ↦ rw (lt-ltb a b below) (place_within a b n below high)
  | inr above ↦ rw (le-ltb a b above) (place_within b a n (omega (arith, apart)) low)
]

pub place_low : (a b : ℕ) → a < b → pair_place a b ≡ pairs b + a
place_low a b low = rw (lt-ltb a b low) refl
