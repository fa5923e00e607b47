use Rattle.std.proofs.Common.{◌≡◌, ◌<◌, ◌+◌, ◌++◌, ◌∷◌, [], ℕ, List, true, false, length, take, drop, get_or, reverse, arith, refl, ◌∙◌, ap}
use Rattle.std.proofs.lemmas.Grind.{common_steps}
use Rattle.std.proofs.lemmas.List.{drop_more, take_more}
use Rattle.rf_scan.specs.Scan.{is_blank, trim_front, trim_back}

pub front_blank : (bs : List ℕ) (i : ℕ) → i < length bs → is_blank (get_or bs i 0) ≡ true → trim_front (drop i bs) ≡ trim_front (drop (i + 1) bs)
unfolding trim_front
front_blank bs i inside h = rw (drop_more bs i 0 inside, h) refl

pub front_kept : (bs : List ℕ) (i : ℕ) → i < length bs → is_blank (get_or bs i 0) ≡ false → trim_front (drop i bs) ≡ drop i bs
unfolding trim_front
front_kept bs i inside h = rw (drop_more bs i 0 inside, h) refl

-- a list with one more at its end, from behind
reversed_more : (bs : List ℕ) (b : ℕ) → reverse (bs ++ b ∷ []) ≡ b ∷ reverse bs
reversed_more bs b = grind (arith, common_steps)

back_more : (bs : List ℕ) (i : ℕ) → i < length bs → reverse (take (i + 1) bs) ≡ get_or bs i 0 ∷ reverse (take i bs)
back_more bs i inside = ap reverse (take_more bs i 0 inside) ∙ reversed_more (take i bs) (get_or bs i 0)

pub back_blank : (bs : List ℕ) (i : ℕ) → i < length bs → is_blank (get_or bs i 0) ≡ true → trim_back (take (i + 1) bs) ≡ trim_back (take i bs)
unfolding trim_front
back_blank bs i inside h = rw (back_more bs i inside, h) refl

twice : (bs : List ℕ) → reverse (reverse bs) ≡ bs
twice bs = grind (arith, common_steps)

pub back_kept : (bs : List ℕ) (i : ℕ) → i < length bs → is_blank (get_or bs i 0) ≡ false → trim_back (take (i + 1) bs) ≡ take (i + 1) bs
unfolding trim_front
back_kept bs i inside h =
    let r = back_more bs i inside in
    let same : trim_front (reverse (take (i + 1) bs)) ≡ reverse (take (i + 1) bs) = rw (r, h) refl in
    ap reverse same ∙ twice (take (i + 1) bs)
