use Rattle.std.proofs.Common.{◌≡◌, ◌≤◌, ◌<◌, ◌+◌, ◌-◌, ◌++◌, ◌∙◌, ℕ, zero, suc, List, [], ◌∷◌, true, length, take, drop, get_or, replicate, arith, rules, min, refl, ap, ◌||◌, not, lit<}
use Rattle.std.proofs.Common.{Some, ◌^◌, ◌*◌, slice_index, decimal, ◌==◌}
use Rattle.std.proofs.lemmas.List.{drop-replicate}
use Rattle.std.proofs.lemmas.List.Folds.{list_all-append}
use Rattle.std.proofs.lemmas.Grind.{common_steps}
use Rattle.std.proofs.lemmas.Bool.{and_parts}
use Rattle.std.proofs.lemmas.Bool.Decides.{nat_tests}
use Rattle.std.specs.Char.{is_ascii_digit, digit_value}
use Rattle.std.specs.List.{list_all}
use Rattle.std.specs.Str.Parse.{digits_value}
use Rattle.std.proofs.lemmas.Str.Parse.{IsNumeralModel, numerals_by_value, digits_value_short, digits_value-take-le, digit_at}
use Rattle.std.proofs.lemmas.Int.Digits.{digits_value_more}
use Rattle.rf_base.specs.Decimal.{padded, is_whole, is_digits, number_of}
use Rattle.std.proofs.lemmas.Fmt.{first_decimal, decimal_digit}

-- texts of digits, by their test, and their values
pub own : IsNumeralModel (λ ds. list_all is_ascii_digit ds ≡ true) (digits_value 10)
own = numerals_by_value _ (search rules)

pub record Whole (ds : List ℕ) : Type 0 where
  pub digits : list_all is_ascii_digit ds ≡ true
  pub some : 0 < length ds
  pub few : length ds ≤ 9

pub whole_parts : (ds : List ℕ) → is_whole ds ≡ true → Whole ds
unfolding is_whole is_digits
whole_parts ds h = record { digits = search rules; some = grind (arith, nat_tests); few = grind (arith, nat_tests) }

-- nine digits write less than 10^9
pub number_short : (ds : List ℕ) → is_whole ds ≡ true → digits_value 10 ds < 10 ^ 9
number_short ds h = let w = whole_parts ds h in digits_value_short own ds 9 w.digits w.few

pub record Step (ds : List ℕ) (i : ℕ) : Type 0 where
  pub low : 48 ≤ get_or ds i 0
  pub high : get_or ds i 0 ≤ 57
  pub value : digits_value 10 (take (i + 1) ds) ≡ digits_value 10 (take i ds) * 10 + (get_or ds i 0 - 48)
  pub within : digits_value 10 (take i ds) * 10 + (get_or ds i 0 - 48) < 1000000000

-- one digit more
pub number_step : (ds : List ℕ) (i : ℕ) → is_whole ds ≡ true → i < length ds → Step ds i
number_step ds i h inside =
    let w = whole_parts ds h in
    let at = digit_at ds i (IsNumeralModel.to own ds w.digits) inside in
    let more = digits_value_more 10 ds i inside in
    let same : digit_value (get_or ds i 0) ≡ get_or ds i 0 - 48 = grind (arith, nat_tests) in
    let e : digits_value 10 (take (i + 1) ds) ≡ digits_value 10 (take i ds) * 10 + (get_or ds i 0 - 48) = more ∙ ap (λ d. digits_value 10 (take i ds) * 10 + d) same in
    let low = digits_value-take-le 10 ds (i + 1) (omega arith) in
    let short = number_short ds h in
    record { low = at.0; high = at.1; value = e; within = omega arith }

take_min : (n : ℕ) (ds : List ℕ) → take (min (length ds) n) ds ≡ take n ds
take_min n ds = grind (arith, common_steps)

-- the first n digits
pub padded_is : (digits zeros : List ℕ) (n count : ℕ) → count ≡ min (length digits) n → zeros ≡ replicate n 48
    → take count digits ++ drop count zeros ≡ padded n digits
unfolding padded
padded_is digits zeros n count e z =
    let left : n - min (length digits) n ≡ n - length digits = omega arith in
    rw (e, z, drop-replicate {X = ℕ} (min (length digits) n) n 48, left, take_min n digits) refl

pub zero_digits : (n : ℕ) → list_all is_ascii_digit (replicate n 48) ≡ true
zero_digits zero = refl
zero_digits (suc n) = zero_digits n

take_digits : (n : ℕ) (ds : List ℕ) → list_all is_ascii_digit ds ≡ true → list_all is_ascii_digit (take n ds) ≡ true
take_digits zero ds h = refl
take_digits (suc n) [] h = refl
take_digits (suc n) (d ∷ ds) h =
    let (first, rest) = and_parts (is_ascii_digit d) (list_all is_ascii_digit ds) h in
    rw (first, take_digits n ds rest) refl

all_padded : (n k : ℕ) (ds : List ℕ) → list_all is_ascii_digit ds ≡ true → list_all is_ascii_digit (take n ds ++ replicate k 48) ≡ true
all_padded n k ds h = rw (list_all-append is_ascii_digit (take n ds) (replicate k 48), take_digits n ds h, zero_digits k) refl

pub whole_from : (ds : List ℕ) → list_all is_ascii_digit ds ≡ true → 1 ≤ length ds → length ds ≤ 9 → is_whole ds ≡ true
unfolding is_whole is_digits
whole_from ds h some few = rw h (grind (arith, nat_tests))

pub padded_whole : (digits : List ℕ) (n : ℕ) → is_digits digits ≡ true → 1 ≤ n → n ≤ 9 → is_whole (padded n digits) ≡ true
unfolding is_digits padded
padded_whole digits n h some few =
    let these : list_all is_ascii_digit digits ≡ true = search rules in
    let size : length (take n digits ++ replicate (n - length digits) 48) ≡ n = grind (arith, common_steps) in
    whole_from (take n digits ++ replicate (n - length digits) 48) (all_padded n (n - length digits) digits these) (omega arith) (omega arith)

pub whole_digits : (ds : List ℕ) → list_all is_ascii_digit ds ≡ true → 0 < length ds → length ds ≤ 9 → is_whole ds ≡ true
unfolding is_whole is_digits
whole_digits ds digits some few = rw digits (grind (arith, nat_tests))

pub number_is : (ds : List ℕ) (n : ℕ) → is_whole ds ≡ true → ((length ds == 1) || not (slice_index ds 0 == 48)) ≡ true → digits_value 10 ds ≡ n → number_of ds ≡ Some n
unfolding number_of
number_is ds n whole front value = rw (whole, front, value) refl

pub above_front : (ds : List ℕ) → 48 < get_or ds 0 0 → ((length ds == 1) || not (slice_index ds 0 == 48)) ≡ true
above_front ds h = grind (arith, nat_tests)

pub no_zero : (n : ℕ) → n < 10 ^ 9 → ((length (decimal n) == 1) || not (slice_index (decimal n) 0 == 48)) ≡ true
no_zero zero h = rw (decimal_digit 0 (lit< tt)) refl
no_zero (suc n) h = above_front (decimal (suc n)) (first_decimal (suc n) (omega arith) (omega arith))
