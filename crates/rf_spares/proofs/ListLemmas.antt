-- Lemmas on lists, on whether one of many lists passes a test, and on arrays that are filled from their first place on.
use Rattle.std.proofs.Common.{◌≡◌, ◌<◌, ◌≤◌, ◌+◌, ℕ, zero, suc, Bool, true, false, ◌||◌, ◌&&◌, ◌==◌, List, [], ◌∷◌, ◌++◌, length, map, refl, ap, sym, ◌∙◌, arith, inl, inr, ◌-◌, ◌≢◌, get_or}
use Rattle.std.proofs.Common.{set, take}
use Rattle.std.specs.Prelude.{filter, not, nat_lt, insert, replicate, nat_le, max}
use Rattle.std.specs.List.{list_all, list_any}
use Rattle.std.proofs.lemmas.Bool.{cases_Bool, true≢false, and_from, and_parts, lt-ltb, ltb-true, or_cases, cases_eq}
use Rattle.std.proofs.lemmas.Bool.Decides.{nat_tests}
use Rattle.std.proofs.lemmas.List.{append-nil, map_more, set-append_right, append_assoc, get_or-set_other, get_or-set_same, length-map, length-take-le}
use Rattle.std.proofs.lemmas.List.Elements.{filter-append}
use Rattle.std.proofs.lemmas.List.Folds.{list_all-map, list_any_none, list_any_more}
use Rattle.rf_rules.specs.Instances.{is_distinct}
use Rattle.rf_rules.specs.Tuples.{tuples, upto}
use Rattle.rf_rules.proofs.TupleLaws.{any-zero, any-suc, any-found, any-first, any-empty, upto-suc, upto-zero, length-upto, map-upto}
use Rattle.rf_base.proofs.ListLaws.{all_below, tested_below}
use Rattle.rf_base.proofs.NumberLaws.{eq_swap}
use Rattle.rf_spares.specs.Spare.{has_role}

-- ---- numbers below n

pub any-plus : (q : ℕ → Bool) (i : ℕ) → list_any q (upto (i + 1)) ≡ (list_any q (upto i) || q i)
any-plus q i = ap (λ n. list_any q (upto n)) (omega arith) ∙ any-suc q i

-- a number below n that passes
pub record Below (q : ℕ → Bool) (n : ℕ) : Type 0 where
  pub at : ℕ
  pub low : at < n
  pub passes : q at ≡ true

pub any-out : (q : ℕ → Bool) (n : ℕ) → list_any q (upto n) ≡ true → Below q n
any-out q zero h = absurd (true≢false (sym h ∙ any-zero q))
any-out q (suc n) h =
    elim (or_cases (list_any q (upto n)) (q n) (sym (any-suc q n) ∙ h)) [
      | inl old ↦ let d = any-out q n old in record { at = d.at; low = omega (arith, d.low); passes = d.passes }
      | inr new ↦ record { at = n; low = omega arith; passes = new }
    ]

pub filter-same : (p q : ℕ → Bool) (n : ℕ) → ((k : ℕ) → k < n → p k ≡ q k) → filter p (upto n) ≡ filter q (upto n)
filter-same p q zero h = rw upto-zero refl
filter-same p q (suc n) h = rw (upto-suc n, filter-append p (upto n), filter-append q (upto n), filter-same p q n (λ k low. h k (omega (arith, low))), h n (omega arith)) refl

-- the last number doesn't pass
pub filter-last : (p q : ℕ → Bool) (n m : ℕ) → m ≡ suc n → ((k : ℕ) → k < n → p k ≡ q k) → p n ≡ false → filter p (upto m) ≡ filter q (upto n)
filter-last p q n m e h last = rw (e, upto-suc n, filter-append p (upto n), last, append-nil) (filter-same p q n h)

-- the last one passes
pub filter-yes : (p : ℕ → Bool) (k : ℕ) → p k ≡ true → filter p (upto (k + 1)) ≡ filter p (upto k) ++ k ∷ []
filter-yes p k h = let e : k + 1 ≡ suc k = omega arith in rw (e, upto-suc k, filter-append p (upto k), h) refl

-- ---- lists of k carriers

-- all numbers of a list are below n
abbrev pub are_below : ℕ → List ℕ → Bool
are_below n t = list_all (λ c. nat_lt c n) t

-- a list of k numbers below n that passes
pub record Found (p : List ℕ → Bool) (k n : ℕ) : Type 0 where
  pub list : List ℕ
  pub size : length list ≡ k
  pub below : are_below n list ≡ true
  pub passes : p list ≡ true

tuples-from : (p : List ℕ → Bool) (k n : ℕ) → list_any p (tuples k (upto n)) ≡ true → Found p k n
tuples-from p zero n h = record { list = []; size = refl; below = refl; passes = sym (any-empty p (upto n)) ∙ h }
tuples-from p (suc k) n h =
    let d = any-out (λ c. list_any (λ u. p (c ∷ u)) (tuples k (upto n))) n (sym (any-first p k (upto n)) ∙ h) in
    let e = tuples-from (λ u. p (d.at ∷ u)) k n d.passes in
    record { list = d.at ∷ e.list; size = ap suc e.size; below = and_from (nat_lt d.at n) (are_below n e.list) (lt-ltb d.at n d.low) e.below; passes = e.passes }

pub tuples-out : (p : List ℕ → Bool) (k n m : ℕ) → m ≡ n → list_any p (tuples k (upto m)) ≡ true → Found p k n
tuples-out p k n m e h = tuples-from p k n (rw e at h)

tuples-in : (p : List ℕ → Bool) (n : ℕ) (t : List ℕ) → are_below n t ≡ true → p t ≡ true → list_any p (tuples (length t) (upto n)) ≡ true
tuples-in p n [] below h = any-empty p (upto n) ∙ h
tuples-in p n (c ∷ t) below h =
    let both = and_parts (nat_lt c n) (are_below n t) below in
    any-first p (length t) (upto n) ∙ any-found (λ x. list_any (λ u. p (x ∷ u)) (tuples (length t) (upto n))) n c (ltb-true c n both.0) (tuples-in (λ u. p (c ∷ u)) n t both.1 h)

pub tuples-in_as : (p : List ℕ → Bool) (n m : ℕ) → m ≡ n → (k : ℕ) (t : List ℕ) → length t ≡ k → are_below n t ≡ true → p t ≡ true → list_any p (tuples k (upto m)) ≡ true
tuples-in_as p n m f k t e below h = rw (f, ← e) (tuples-in p n t below h)

-- ---- inserting

pub all-insert : {X : Type 0} (p : X → Bool) (xs : List X) (i : ℕ) (x : X) → list_all p (insert xs i x) ≡ (p x && list_all p xs)
all-insert p xs zero x = refl
all-insert p [] (suc i) x = refl
all-insert p (y ∷ ys) (suc i) x = grind (arith, all-insert p ys i x)

pub any-insert : {X : Type 0} (p : X → Bool) (xs : List X) (i : ℕ) (x : X) → list_any p (insert xs i x) ≡ (p x || list_any p xs)
any-insert p xs zero x = refl
any-insert p [] (suc i) x = refl
any-insert p (y ∷ ys) (suc i) x = grind (arith, any-insert p ys i x)

-- a list that has a number, as the number inserted into the others
pub record Split (n : ℕ) (t : List ℕ) : Type 0 where
  pub role : ℕ
  pub others : List ℕ
  pub within : role ≤ length others
  pub is : t ≡ insert others role n

pub split : (n : ℕ) (t : List ℕ) → has_role n t ≡ true → Split n t
split n [] h = absurd (true≢false (sym h))
split n (x ∷ t) h =
    elim (cases_Bool (x == n)) [
      | inl e ↦ let f : x ≡ n = grind (arith, nat_tests) in record { role = 0; others = t; within = omega arith; is = ap (λ y. y ∷ t) f }
      | inr e ↦
          let d = split n t (sym (ap (λ b. b || has_role n t) e) ∙ h) in
          record { role = suc d.role; others = x ∷ d.others; within = omega (arith, d.within); is = ap (λ zs. x ∷ zs) d.is }
    ]

-- those that are below n + 1 and aren't n are below n
pub below-less : (n : ℕ) (t : List ℕ) → are_below (n + 1) t ≡ true → has_role n t ≡ false → are_below n t ≡ true
below-less n [] h none = refl
below-less n (x ∷ t) h none = grind (arith, nat_tests, below-less n t)

pub below-more : (n m : ℕ) (t : List ℕ) → n ≤ m → are_below n t ≡ true → are_below m t ≡ true
below-more n m t le h = tested_below m t (λ k d low. omega (arith, le, all_below n t h k d low))

pub below-none : (n : ℕ) (t : List ℕ) → are_below n t ≡ true → has_role n t ≡ false
below-none n t h = list_any_none (λ d. d == n) t (λ k d low. grind (arith, nat_tests, all_below n t h k d low))

pub distinct-insert : (n : ℕ) (t : List ℕ) (i : ℕ) → is_distinct (insert t i n) ≡ (not (has_role n t) && is_distinct t)
distinct-insert n t zero = refl
distinct-insert n [] (suc i) = refl
distinct-insert n (x ∷ t) (suc i) = grind (arith, any-insert (λ d. d == x) t i n, distinct-insert n t i, eq_swap n x)

-- tests that agree below n agree on lists of numbers below n
pub map-below : {X : Type 0} (p q : ℕ → X) (n : ℕ) (t : List ℕ) → ((c : ℕ) → c < n → p c ≡ q c) → are_below n t ≡ true → map p t ≡ map q t
map-below p q n [] h low = refl
map-below p q n (x ∷ t) h low =
    let both = and_parts (nat_lt x n) (are_below n t) low in
    rw (h x (ltb-true x n both.0), map-below p q n t h both.1) refl

pub all-below : (p q : ℕ → Bool) (n : ℕ) (t : List ℕ) → ((c : ℕ) → c < n → p c ≡ q c) → are_below n t ≡ true → list_all p t ≡ list_all q t
all-below p q n t h low = sym (list_all-map (λ b. b) p t) ∙ ap (list_all (λ b. b)) (map-below p q n t h low) ∙ list_all-map (λ b. b) q t

-- ---- arrays that are filled

-- one place more is filled
pub fill-step : {X : Type 0} (arr xs : List X) (n i : ℕ) (z y : X) → arr ≡ xs ++ replicate (n - i) z → length xs ≡ i → i < n → set arr i y ≡ (xs ++ y ∷ []) ++ replicate (n - (i + 1)) z
fill-step arr xs n i z y e l h =
    let m : n - i ≡ suc (n - (i + 1)) = omega (arith, h) in
    let none : i - i ≡ 0 = omega arith in
    rw (e, set-append_right xs (replicate (n - i) z) i i y l (omega arith), none, m) (sym (append_assoc xs (y ∷ []) (replicate (n - (i + 1)) z)))

pub fill-map : {X Y : Type 0} (g : X → Y) (xs : List X) (arr : List Y) (n i : ℕ) (z y : Y) (x : X)
    → arr ≡ map g (take i xs) ++ replicate (n - i) z → i < length xs → length xs ≤ n → x ≡ get_or xs i x → y ≡ g x
    → set arr i y ≡ map g (take (i + 1) xs) ++ replicate (n - (i + 1)) z
fill-map g xs arr n i z y x e h few at is =
    fill-step arr (map g (take i xs)) n i z y e (length-map (take i xs) g ∙ length-take-le i xs (omega (arith, h))) (omega (arith, h, few))
    ∙ ap (λ ws. ws ++ replicate (n - (i + 1)) z) (ap (λ w. map g (take i xs) ++ w ∷ []) (is ∙ ap g at) ∙ sym (map_more g xs i x h))

pub fill-upto : {Y : Type 0} (g : ℕ → Y) (arr : List Y) (n i : ℕ) (z y : Y) → arr ≡ map g (upto i) ++ replicate (n - i) z → i < n → y ≡ g i
    → set arr i y ≡ map g (upto (i + 1)) ++ replicate (n - (i + 1)) z
fill-upto g arr n i z y e h is = fill-step arr (map g (upto i)) n i z y e (length-map (upto i) g ∙ length-upto i) h ∙ rw (is, map-upto g i) refl

-- what holds of the first places, with one more
pub set-each : (P : ℕ → ℕ → Type 0) (xs : List ℕ) (i y : ℕ) → i < length xs → P i y → (k : ℕ) → ((k ≢ i) → P k (get_or xs k 0)) → P k (get_or (set xs i y) k 0)
set-each P xs i y h new k old =
    elim (cases_eq k i) [
      | inl same ↦ let e = get_or-set_same xs i y 0 h in rw (same, e) new
      | inr other ↦ let e = get_or-set_other xs i k y 0 other in rw e (old other)
    ]

-- ---- marks

-- one element of a list passes where it did, or where q holds
pub any-set : (p : ℕ → Bool) (q : Bool) (xs : List ℕ) (i n y d : ℕ) → i < length xs → p y ≡ (p (get_or xs i d) || q)
    → list_any p (take n (set xs i y)) ≡ (list_any p (take n xs) || (nat_lt i n && q))
any-set p q [] i n y d h e = absurd (omega (arith, h))
any-set p q (x ∷ xs) i zero y d h e = let f : nat_lt i 0 ≡ false = grind (arith, nat_tests) in rw f refl
any-set p q (x ∷ xs) zero (suc n) y d h e = grind (arith, nat_tests, e)
any-set p q (x ∷ xs) (suc i) (suc n) y d h e =
    let f : nat_lt (suc i) (suc n) ≡ nat_lt i n = grind (arith, nat_tests) in
    grind (arith, f, any-set p q xs i n y d (omega (arith, h)) e)

lt-max : (x a b : ℕ) → nat_lt x (max a b) ≡ (nat_lt x a || nat_lt x b)
lt-max x a b = grind (arith, nat_tests)

-- one interval more
pub mark-one : (xs : List ℕ) (low lo hi f place y d : ℕ) → place ≡ max lo low - low → y ≡ max (get_or xs place d) hi → place < length xs → low ≤ f
    → list_any (nat_lt f) (take (f + 1 - low) (set xs place y)) ≡ (list_any (nat_lt f) (take (f + 1 - low) xs) || (nat_le lo f && nat_lt f hi))
mark-one xs low lo hi f place y d e g h span =
    let first : nat_lt place (f + 1 - low) ≡ nat_le lo f = grind (arith, nat_tests, e, span) in
    any-set (nat_lt f) (nat_lt f hi) xs place (f + 1 - low) y d h (ap (nat_lt f) g ∙ lt-max f (get_or xs place d) hi)
    ∙ ap (λ b. list_any (nat_lt f) (take (f + 1 - low) xs) || (b && nat_lt f hi)) first
