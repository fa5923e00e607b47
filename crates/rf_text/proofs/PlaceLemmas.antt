-- The digits after the point, one after another.
use Rattle.std.proofs.Common.{◌≡◌, ◌≢◌, ◌≤◌, ◌<◌, ◌+◌, ◌-◌, ◌++◌, ℕ, zero, suc, List, [], ◌∷◌, append-nil, append_assoc, arith, lit<, refl, subst, ◌^◌, ◌/◌, ◌%◌, ◌==◌, decimal, false}
use Rattle.std.proofs.Math.Nat.{div-lt_iff_lt-mul, one-le-pow, pow-suc}
use Rattle.std.proofs.lemmas.Bool.Decides.{nat_tests}
use Rattle.std.proofs.lemmas.Fmt.{decimal_digit}
use Rattle.rf_text.specs.Decimals.{places}

pub ten_pow : (n : ℕ) → 0 < 10 ^ n
ten_pow n = one-le-pow n 10 (lit< tt)

-- a place's digit is one
pub digit_below : (n f : ℕ) → f < 10 ^ suc n → f / 10 ^ n < 10
digit_below n f h =
    let p = pow-suc 10 n in
    let is = div-lt_iff_lt-mul {k = 10 ^ n} {x = f} {y = 10} (ten_pow n) in
    is.1 (omega (arith, h, p))

pub places_none : (n : ℕ) → places n 0 ≡ []
unfolding places
places_none zero = refl
places_none (suc n) = refl

pub is_some : (f : ℕ) → f ≢ 0 → (f == 0) ≡ false
is_some f h = grind (arith, nat_tests)

pub places_more : (n f : ℕ) → f ≢ 0 → places (suc n) f ≡ (48 + f / 10 ^ n) ∷ places n (f % 10 ^ n)
unfolding places
places_more n f h = rw (is_some f h) refl

-- What is written of the places of a fraction, where `rest` is left to the places from `place` on.
pub record PlacesWritten (old text : List ℕ) (fraction place rest : ℕ) : Type 0 where
  pub small : rest < 10 ^ (9 - place)
  pub is : text ++ places (9 - place) rest ≡ old ++ places 9 fraction

pub place_written : (old text more : List ℕ) (fraction place rest : ℕ) → PlacesWritten old text fraction place rest → place < 9 → rest ≢ 0
    → more ≡ text ++ decimal (rest / 10 ^ (8 - place)) → PlacesWritten old more fraction (place + 1) (rest % 10 ^ (8 - place))
place_written old text more fraction place rest w inside some e =
    let count : 9 - place ≡ suc (8 - place) = omega arith in
    let next : 9 - (place + 1) ≡ 8 - place = omega arith in
    let small : rest < 10 ^ suc (8 - place) = rw (← count) w.small in
    let was = w.is in
    record {
      small = rw next (omega (arith, ten_pow (8 - place)));
      is = rw (e, next, decimal_digit (rest / 10 ^ (8 - place)) (digit_below (8 - place) rest small)) (rw (← was, count, places_more (8 - place) rest some) (simp append_assoc refl));
    }

-- nothing is left
pub places_ended : (old text : List ℕ) (fraction place rest : ℕ) → PlacesWritten old text fraction place rest → rest ≡ 0 → text ≡ old ++ places 9 fraction
places_ended old text fraction place rest w e = let is = w.is in rw (e, places_none, append-nil) at is

pub places_full : (old text : List ℕ) (fraction place rest : ℕ) → PlacesWritten old text fraction place rest → 9 ≤ place → text ≡ old ++ places 9 fraction
places_full old text fraction place rest w h =
    let none : 9 - place ≡ 0 = omega arith in
    places_ended old text fraction place rest w (omega (arith, subst (λ k. rest < 10 ^ k) none w.small))
