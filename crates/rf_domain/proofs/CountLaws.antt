-- How many indices pass a test, and how many bits words have.
use Rattle.std.proofs.Common.{◌≡◌, ℕ, zero, suc, ◌+◌, ◌-◌, ◌*◌, ◌/◌, ◌%◌, ◌^◌, ◌<◌, ◌≤◌, Bool, true, false, not, ◌&&◌, ◌||◌, refl, sym, ◌∙◌, ap, arith, inl, inr, add-suc}
use Rattle.std.specs.Prelude.{◌==◌, count_ones, if◌then◌else◌}
use Rattle.std.specs.Int.{bit_at}
use Rattle.std.proofs.lemmas.Bool.{cases_lt, cases_Bool, true≢false}
use Rattle.std.proofs.lemmas.Nat.Bits.{bit_at_lowest, bit_at-suc}
use lib.Count.{ones_step, ones-le}
use Rattle.std.proofs.Math.Nat.{pow-suc}
use Rattle.rf_domain.specs.Indices.{count_below}
use Rattle.rf_base.proofs.NumberLaws.{lt_cases}

abbrev pub bit : Bool → ℕ
bit b = if b then 1 else 0

pub count_bound : (p : ℕ → Bool) (n : ℕ) → count_below p n ≤ n
count_bound p zero = omega arith
count_bound p (suc n) = let before = count_bound p n in
    elim (p n) as (λ b. count_below p n + bit b ≤ suc n) [ true ↦ omega arith | false ↦ omega arith ]

pub count_ext : (p q : ℕ → Bool) (n : ℕ) → ((k : ℕ) → k < n → p k ≡ q k) → count_below p n ≡ count_below q n
count_ext p q zero same = refl
count_ext p q (suc n) same =
    ap (λ x. x + bit (p n)) (count_ext p q n (λ k below. same k (omega arith))) ∙ ap (λ b. count_below q n + bit b) (same n (omega arith))

pub count_none : (p : ℕ → Bool) (n : ℕ) → ((k : ℕ) → k < n → p k ≡ false) → count_below p n ≡ 0
count_none p zero none = refl
count_none p (suc n) none = ap (λ b. count_below p n + bit b) (none n (omega arith)) ∙ omega (arith, count_none p n (λ k below. none k (omega arith)))

pub count_split : (p : ℕ → Bool) (a n : ℕ) → count_below p (a + n) ≡ count_below p a + count_below (λ j. p (a + j)) n
count_split p a zero = let e : a + 0 ≡ a = omega arith in omega (arith, ap (count_below p) e)
count_split p a (suc n) = rw add-suc (omega (arith, count_split p a n))

count_front : (p : ℕ → Bool) (n : ℕ) → count_below p (suc n) ≡ bit (p 0) + count_below (λ j. p (suc j)) n
count_front p zero = omega arith
count_front p (suc n) = let before = count_front p n in omega arith

bit_low : (n : ℕ) → n % 2 ≡ bit (n % 2 == 1)
bit_low n = elim (cases_lt (n % 2) 1) [
  | inl none ↦ let e : n % 2 ≡ 0 = omega arith in rw e
  | inr one ↦ let e : n % 2 ≡ 1 = omega arith in rw e
]

half : (w n : ℕ) → n < 2 ^ suc w → n / 2 < 2 ^ w
half w n small = let e : 2 ^ suc w ≡ 2 ^ w * 2 = pow-suc 2 w in omega arith

pub ones_count : (w n : ℕ) → n < 2 ^ w → count_ones n ≡ count_below (λ i. bit_at n i == 1) w
ones_count zero n small = omega (arith, ones-le 0 n small)
ones_count (suc w) n small =
    ones_step n
    ∙ ap (λ x. x + count_ones (n / 2)) (bit_low n ∙ ap (λ x. bit (x == 1)) (sym (bit_at_lowest n)))
    ∙ ap (λ x. bit (bit_at n 0 == 1) + x) (ones_count w (n / 2) (half w n small) ∙ count_ext _ _ w (λ k below. ap (λ x. x == 1) (sym (bit_at-suc n k))))
    ∙ sym (count_front (λ i. bit_at n i == 1) w)

-- one more word counted, whose bits tell of the indices
pub word_part : (p : ℕ → Bool) (i value : ℕ) → value < 2 ^ 64 → ((j : ℕ) → j < 64 → (bit_at value j == 1) ≡ p (64 * i + j))
    → count_below p (64 * (i + 1)) ≡ count_below p (64 * i) + count_ones value
word_part p i value fits bits =
    let next : 64 * (i + 1) ≡ 64 * i + 64 = omega arith in
    ap (count_below p) next ∙ count_split p (64 * i) 64
    ∙ ap (λ x. count_below p (64 * i) + x) (
    count_ext (λ j. p (64 * i + j)) (λ j. bit_at value j == 1) 64 (λ j below. sym (bits j below)) ∙ sym (ones_count 64 value fits))

-- nothing is counted from a to b
pub count_tail : (p : ℕ → Bool) (a b : ℕ) → a ≤ b → ((k : ℕ) → a ≤ k → k < b → p k ≡ false) → count_below p b ≡ count_below p a
count_tail p a b ordered none =
    let over : a + (b - a) ≡ b = omega arith in
    let empty : count_below (λ j. p (a + j)) (b - a) ≡ 0 = count_none (λ j. p (a + j)) (b - a) (λ j below. none (a + j) (omega arith) (omega arith)) in
    let split : count_below p (a + (b - a)) ≡ count_below p a + count_below (λ j. p (a + j)) (b - a) = count_split p a (b - a) in
    ap (count_below p) (sym over) ∙ omega arith

parted : (a b : Bool) → bit a ≡ bit (a && not b) + bit (a && b)
parted true true = refl
parted true false = refl
parted false true = refl
parted false false = refl

joined : (a b : Bool) → bit (a || b) ≡ bit a + bit (b && not a)
joined true true = refl
joined true false = refl
joined false true = refl
joined false false = refl

pub count_parted : (p q : ℕ → Bool) (n : ℕ) → count_below p n ≡ count_below (λ k. p k && not (q k)) n + count_below (λ k. p k && q k) n
count_parted p q zero = refl
count_parted p q (suc n) = omega (arith, count_parted p q n, parted (p n) (q n))

pub count_joined : (p q : ℕ → Bool) (n : ℕ) → count_below (λ k. p k || q k) n ≡ count_below p n + count_below (λ k. q k && not (p k)) n
count_joined p q zero = refl
count_joined p q (suc n) = omega (arith, count_joined p q n, joined (p n) (q n))

pub bit_mono : (a b : Bool) → (a ≡ true → b ≡ true) → bit a ≤ bit b
bit_mono true true f = omega arith
bit_mono true false f = let clash : false ≡ true = f refl in cc
bit_mono false b f = elim b as (λ v. 0 ≤ bit v) [ true ↦ omega arith | false ↦ omega arith ]

bit_same : (a b : Bool) → bit a ≡ bit b → a ≡ b
bit_same true true e = refl
bit_same true false e = absurd (omega arith)
bit_same false true e = absurd (omega arith)
bit_same false false e = refl

module _ (p q : ℕ → Bool) (within : (k : ℕ) → p k ≡ true → q k ≡ true) where
  pub count_mono : (n : ℕ) → count_below p n ≤ count_below q n
  count_mono zero = omega arith
  count_mono (suc n) = omega (arith, count_mono n, bit_mono (p n) (q n) (within n))

  pub count_same : (n : ℕ) → count_below p n ≡ count_below q n → (k : ℕ) → k < n → p k ≡ q k
  count_same zero e k h = absurd (omega arith)
  count_same (suc n) e k h =
      let less = count_mono n in
      let bit_less = bit_mono (p n) (q n) (within n) in
      let here : p n ≡ q n = bit_same (p n) (q n) (omega arith) in
      let rest : count_below p n ≡ count_below q n = omega arith in
      elim (lt_cases k n h) [ inl below ↦ count_same n rest k below | inr same ↦ ap p same ∙ here ∙ sym (ap q same) ]

pub count_zero : (p : ℕ → Bool) (n : ℕ) → count_below p n ≡ 0 → (k : ℕ) → k < n → p k ≡ false
count_zero p zero none k h = absurd (omega arith)
count_zero p (suc n) none k h =
    let here : p n ≡ false = bit_same (p n) false (omega arith) in
    let rest : count_below p n ≡ 0 = omega arith in
    elim (lt_cases k n h) [ inl below ↦ count_zero p n rest k below | inr same ↦ ap p same ∙ here ]

-- the one number that passes is counted once
pub count_sole : (p : ℕ → Bool) (n k : ℕ) → k < n → p k ≡ true → ((j : ℕ) → p j ≡ true → j ≡ k) → count_below p n ≡ 1
count_sole p zero k h here alone = absurd (omega arith)
count_sole p (suc n) k h here alone = elim (lt_cases k n h) [
  | inl below ↦
      let not_last : p n ≡ false = elim (cases_Bool (p n)) [ inl last ↦ absurd (omega (arith, alone n last)) | inr other ↦ other ] in
      ap (λ b. count_below p n + bit b) not_last ∙ omega (arith, count_sole p n k below here alone)
  | inr same ↦
      let last : p n ≡ true = ap p (sym same) ∙ here in
      let none : count_below p n ≡ 0 = count_none p n (λ j low. elim (cases_Bool (p j)) [ inl there ↦ absurd (omega (arith, alone j there)) | inr other ↦ other ]) in
      ap (λ b. count_below p n + bit b) last ∙ omega arith
]

-- where one number is counted, two that pass are the same
pub count_alone : (p : ℕ → Bool) (n : ℕ) → count_below p n ≡ 1 → (j k : ℕ) → j < n → k < n → p j ≡ true → p k ≡ true → j ≡ k
count_alone p zero one j k h g here there = absurd (omega arith)
count_alone p (suc n) one j k h g here there = elim (cases_Bool (p n)) [
  | inl last ↦
      let none : count_below p n ≡ 0 = omega (arith, ap bit last) in
      at_last n none j h here ∙ sym (at_last n none k g there)
  | inr other ↦
      let rest : count_below p n ≡ 1 = omega (arith, ap bit other) in
      count_alone p n rest j k (early n other j h here) (early n other k g there) here there
]
  where
    at_last : (n : ℕ) → count_below p n ≡ 0 → (i : ℕ) → i < suc n → p i ≡ true → i ≡ n
    at_last n none i low passes = elim (lt_cases i n low) [
      | inl below ↦ let not_here : p i ≡ false = count_zero p n none i below in absurd (true≢false (sym passes ∙ not_here))
      | inr same ↦ same
    ]

    early : (n : ℕ) → p n ≡ false → (i : ℕ) → i < suc n → p i ≡ true → i < n
    early n other i low passes = elim (lt_cases i n low) [
      | inl below ↦ below
      | inr same ↦ absurd (true≢false (sym passes ∙ ap p same ∙ other))
    ]
