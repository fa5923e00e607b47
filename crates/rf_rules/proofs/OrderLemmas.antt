-- Lists of carriers stand in the order of their first carriers, then of their second ones, and so on.
use Rattle.std.proofs.Common.{◌≡◌, ◌<◌, ◌≤◌, ℕ, suc, zero, List, [], ◌∷◌, ◌++◌, map, length, refl, arith}
use Rattle.std.proofs.lemmas.Bool.Decides.{nat_tests}
use Rattle.rf_rules.specs.Tuples.{tuples, upto}
use Rattle.rf_rules.proofs.TupleLaws.{begun, begun-more, tuples-suc, tuples-zero, upto-zero}
use Rattle.rf_rules.specs.Merges.{stands_before}
use Rattle.rf_rules.proofs.RisingLemmas.{Before, Each, IsRising, each-all, each-append, each-flat, each-from, each-map, rising-append, rising-map}

-- ---- how long they are

pub tuples-long : (k : ℕ) (xs : List ℕ) → Each (λ t. length t ≡ k) (tuples k xs)
tuples-long zero xs = rw (tuples-zero xs) (refl, tt)
tuples-long (suc k) xs =
    rw (tuples-suc k xs) (each-flat (λ t. length t ≡ suc k) (λ x. map (λ t. x ∷ t) (tuples k xs)) xs
    (λ x. each-map (λ t. length t ≡ suc k) (λ t. x ∷ t) (tuples k xs) (each-from (λ t. length t ≡ k) (λ t. length (x ∷ t) ≡ suc k) (tuples k xs) (λ t h. omega (arith, h)) (tuples-long k xs))))

-- ---- their order

push-front : (a : ℕ) (s t : List ℕ) → Before stands_before s t → Before stands_before (a ∷ s) (a ∷ t)
push-front a s t h = (grind (arith, nat_tests, h.0), grind (arith, nat_tests, h.1))

-- a list begins below i
abbrev BeginsBelow : ℕ → List ℕ → Type 0
BeginsBelow i [] = ⊥
BeginsBelow i (a ∷ t) = a < i

later : (i j : ℕ) (t : List ℕ) → i ≤ j → BeginsBelow i t → BeginsBelow j t
later i j [] h b = b
later i j (a ∷ t) h b = omega (arith, h, b)

first-before : (i : ℕ) (s u : List ℕ) → BeginsBelow i s → Before stands_before s (i ∷ u)
first-before i [] u h = absurd h
first-before i (a ∷ s) u h = (grind (arith, nat_tests, h), grind (arith, nat_tests, h))

record Block (k : ℕ) (xs : List ℕ) (i : ℕ) : Type 0 where
  rising : IsRising stands_before (begun k xs (upto i))
  below : Each (BeginsBelow i) (begun k xs (upto i))

block : (k : ℕ) (xs : List ℕ) (i : ℕ) → IsRising stands_before (tuples k xs) → Block k xs i
block k xs zero h = record { rising = rw upto-zero tt; below = rw upto-zero tt }
block k xs (suc i) h =
    let b = block k xs i h in
    let ts = map (λ t. i ∷ t) (tuples k xs) in
    let e : begun k xs (upto (suc i)) ≡ begun k xs (upto i) ++ ts = begun-more k xs i in
    let up : IsRising stands_before ts = rising-map stands_before stands_before (λ t. i ∷ t) (tuples k xs) (λ s t. push-front i s t) h in
    let behind : Each (λ s. Each (Before stands_before s) ts) (begun k xs (upto i)) =
    each-from (BeginsBelow i) (λ s. Each (Before stands_before s) ts) (begun k xs (upto i))
    (λ s q. each-map (Before stands_before s) (λ t. i ∷ t) (tuples k xs) (each-all (λ t. Before stands_before s (i ∷ t)) (tuples k xs) (λ u. first-before i s u q))) b.below in
    let own : Each (BeginsBelow (suc i)) ts = each-map (BeginsBelow (suc i)) (λ t. i ∷ t) (tuples k xs) (each-all (λ t. i < suc i) (tuples k xs) (λ t. omega arith)) in
    let old : Each (BeginsBelow (suc i)) (begun k xs (upto i)) = each-from (BeginsBelow i) (BeginsBelow (suc i)) (begun k xs (upto i)) (λ s q. later i (suc i) s (omega arith) q) b.below in
    record {
      rising = rw e (rising-append stands_before (begun k xs (upto i)) ts b.rising up behind);
      below = rw e (each-append (BeginsBelow (suc i)) (begun k xs (upto i)) ts old own);
    }

pub tuples-rise : (k n : ℕ) → IsRising stands_before (tuples k (upto n))
tuples-rise zero n = rw (tuples-zero (upto n)) (tt, tt)
tuples-rise (suc k) n = rw (tuples-suc k (upto n)) (block k (upto n) n (tuples-rise k n)).rising
