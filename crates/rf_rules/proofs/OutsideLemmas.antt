-- Lists of carriers that have none of a mask are the same among more carriers, where those that are more are of the mask.
use Rattle.std.proofs.Common.{◌≡◌, ◌≤◌, ◌<◌, ℕ, suc, zero, Bool, true, false, List, [], ◌∷◌, ◌++◌, map, refl, ap, sym, ◌∙◌, arith, inl, inr, filter, not, nat_lt, append-nil}
use Rattle.std.proofs.lemmas.Bool.{cases_lt, or_right}
use Rattle.std.proofs.lemmas.Bool.Decides.{nat_tests}
use Rattle.std.proofs.lemmas.List.Elements.{filter-append}
use Rattle.rf_zones.specs.Masks.{has_bit}
use Rattle.rf_rules.specs.Tuples.{tuples, upto}
use Rattle.rf_rules.specs.Touched.{meets}
use Rattle.rf_rules.proofs.TupleLaws.{tuples-suc, tuples-zero}
use Rattle.rf_rules.proofs.GroupLemmas.{filter-flat_map}
use Rattle.rf_rules.proofs.RisingLemmas.{each-all, each-map, filter-empty, flat-only}
use Rattle.rf_base.proofs.ListLaws.{flat_same}

-- a carrier is not of a mask
abbrev is_out : ℕ → ℕ → Bool
is_out mask c = not (has_bit mask c)

-- ---- the carriers

wider : (out : ℕ → Bool) (m n : ℕ) → m ≤ n → ((c : ℕ) → m ≤ c → c < n → out c ≡ false) → filter out (upto n) ≡ filter out (upto m)
unfolding upto
wider out m zero h none = let e : m ≡ 0 = omega (arith, h) in rw e refl
wider out m (suc n) h none =
    elim (cases_lt n m) [
      | inl p ↦ let e : m ≡ suc n = omega (arith, p, h) in rw e refl
      | inr p ↦ filter-append out (upto n) (n ∷ [])
          ∙ ap (λ zs. filter out (upto n) ++ zs) (filter-empty out (n ∷ []) (none n p (omega arith), tt))
          ∙ append-nil (filter out (upto n))
          ∙ wider out m n p (λ c q r. none c q (omega (arith, r)))
    ]

carriers-same : (mask m n : ℕ) → ((c : ℕ) → has_bit mask c ≡ false → nat_lt c m ≡ nat_lt c n) → filter (is_out mask) (upto m) ≡ filter (is_out mask) (upto n)
carriers-same mask m n same =
    elim (cases_lt m n) [
      | inl p ↦ sym (wider (is_out mask) m n (omega (arith, p)) (λ c q r. grind (arith, nat_tests, same c, q, r)))
      | inr p ↦ wider (is_out mask) n m p (λ c q r. grind (arith, nat_tests, same c, q, r))
    ]

-- ---- lists of them

filter-behind : {X Y : Type 0} (p : Y → Bool) (f : X → Y) (xs : List X) → filter p (map f xs) ≡ map f (filter (λ y. p (f y)) xs)
filter-behind p f [] = refl
filter-behind p f (x ∷ xs) = grind (arith, filter-behind p f xs)

-- lists that have none of a mask, among the carriers that are not of it
without : (mask : ℕ) (p : List ℕ → Bool) (k : ℕ) (xs : List ℕ) → ((t : List ℕ) → meets mask t ≡ true → p t ≡ false) → filter p (tuples k xs) ≡ filter p (tuples k (filter (is_out mask) xs))
without mask p zero xs none = ap (filter p) (tuples-zero xs ∙ sym (tuples-zero (filter (is_out mask) xs)))
without mask p (suc k) xs none =
    let ys = filter (is_out mask) xs in
    let push : ℕ → List ℕ → List ℕ = λ x t. x ∷ t in
    let was : ℕ → List (List ℕ) = λ x. filter p (map (push x) (tuples k xs)) in
    let is : ℕ → List (List ℕ) = λ x. filter p (map (push x) (tuples k ys)) in
    ap (filter p) (tuples-suc k xs)
    ∙ filter-flat_map p (λ x. map (push x) (tuples k xs)) xs
    ∙ flat-only was (is_out mask) xs (each-all (λ x. is_out mask x ≡ false → was x ≡ []) xs
    (λ x out. filter-empty p (map (push x) (tuples k xs)) (each-map (λ t. p t ≡ false) (push x) (tuples k xs)
    (each-all (λ t. p (x ∷ t) ≡ false) (tuples k xs) (λ t. none (x ∷ t) (grind (arith, out)))))))
    ∙ flat_same was is ys (λ x. filter-behind p (push x) (tuples k xs)
    ∙ ap (map (push x)) (without mask (λ t. p (x ∷ t)) k xs (λ t h. none (x ∷ t) (or_right (has_bit mask x) (meets mask t) h)))
    ∙ sym (filter-behind p (push x) (tuples k ys)))
    ∙ sym (ap (filter p) (tuples-suc k ys) ∙ filter-flat_map p (λ x. map (push x) (tuples k ys)) ys)

pub tuples-same : (mask m n : ℕ) (p : List ℕ → Bool) (k : ℕ) → ((c : ℕ) → has_bit mask c ≡ false → nat_lt c m ≡ nat_lt c n) → ((t : List ℕ) → meets mask t ≡ true → p t ≡ false) →
    filter p (tuples k (upto m)) ≡ filter p (tuples k (upto n))
tuples-same mask m n p k same none =
    without mask p k (upto m) none ∙ ap (λ xs. filter p (tuples k xs)) (carriers-same mask m n same) ∙ sym (without mask p k (upto n) none)
