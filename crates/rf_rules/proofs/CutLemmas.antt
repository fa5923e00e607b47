-- Two lists as one, of which only the front is shown.
use Rattle.std.proofs.Common.{◌≡◌, ◌≤◌, ◌+◌, ℕ, suc, zero, Bool, List, [], ◌∷◌, ◌++◌, length, take, refl, ap, sym, ◌∙◌, arith, take-take}
use Rattle.rf_rules.specs.Tallies.{shown_of}
use Rattle.rf_rules.specs.Merges.{merge, up_to}

front-twice : {Y : Type 0} (n m : ℕ) (xs ys : List Y) → n ≤ m → take n (xs ++ take m ys) ≡ take n (xs ++ ys)
front-twice n m [] ys h = take-take n m ys h
front-twice zero m (x ∷ xs) ys h = refl
front-twice (suc n) m (x ∷ xs) ys h = ap (λ zs. x ∷ zs) (front-twice n m xs ys (omega (arith, h)))

run-cut : {Y : Type 0} (lt : Y → Y → Bool) (x : Y) (f : List Y → List Y) (ys : List Y) (n m : ℕ) → ((n m : ℕ) (zs : List Y) → n ≤ m → take n (f (take m zs)) ≡ take n (f zs)) →
    n ≤ m → take n (up_to lt x f (take m ys)) ≡ take n (up_to lt x f ys)
run-cut lt x f ys zero m h q = refl
run-cut lt x f ys (suc n) zero h q = absurd (omega (arith, q))
run-cut lt x f [] (suc n) (suc m) h q = refl
run-cut lt x f (y ∷ ys) (suc n) (suc m) h q = grind (arith, run-cut lt x f ys n m h (omega (arith, q)), h n (suc m) (y ∷ ys) (omega (arith, q)))

merge-cut : {Y : Type 0} (lt : Y → Y → Bool) (xs ys : List Y) (n m : ℕ) → n ≤ m → take n (merge lt xs (take m ys)) ≡ take n (merge lt xs ys)
unfolding merge
merge-cut lt [] ys n m q = take-take n m ys q
merge-cut lt (x ∷ xs) ys n m q = run-cut lt x (merge lt xs) ys n m (λ i j zs r. merge-cut lt xs zs i j r) q

-- of the second list no more is looked at than is shown
pub shown-merge : {Y : Type 0} (lt : Y → Y → Bool) (front xs ys : List Y) → shown_of (front ++ merge lt xs (shown_of ys)) ≡ shown_of (front ++ merge lt xs ys)
unfolding shown_of
shown-merge lt front xs ys =
    let n : ℕ = 10000 in
    sym (front-twice n n front (merge lt xs (take n ys)) (omega arith))
    ∙ ap (λ zs. take n (front ++ zs)) (merge-cut lt xs ys n n (omega arith))
    ∙ front-twice n n front (merge lt xs ys) (omega arith)

run-length : {Y : Type 0} (lt : Y → Y → Bool) (x : Y) (f : List Y → List Y) (k : ℕ) (ys : List Y) → ((zs : List Y) → length (f zs) ≡ k + length zs) → length (up_to lt x f ys) ≡ suc k + length ys
run-length lt x f k [] h = omega (arith, h [])
run-length lt x f k (y ∷ ys) h = grind (arith, h (y ∷ ys), run-length lt x f k ys h)

pub merge-length : {Y : Type 0} (lt : Y → Y → Bool) (xs ys : List Y) → length (merge lt xs ys) ≡ length xs + length ys
unfolding merge
merge-length lt [] ys = omega arith
merge-length lt (x ∷ xs) ys = run-length lt x (merge lt xs) (length xs) ys (λ zs. merge-length lt xs zs) ∙ omega arith
