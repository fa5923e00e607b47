-- A decimal in printed form is read back as it was.
use Rattle.std.proofs.Common.{◌≡◌, ◌≢◌, ◌<◌, ◌+◌, ◌-◌, ◌++◌, ◌∙◌, ℕ, zero, suc, List, [], ◌∷◌, ◌&&◌, Bool, true, false, length, length-append, take, drop, replicate, append-nil, arith, refl}
use Rattle.std.proofs.Common.{rules, sym, Some, None, inl, inr, ℤ, pos, negsuc, neg_ℤ, nat_abs, slice_index, ◌^◌, ◌/◌, ◌%◌, ◌*◌, ◌==◌, decimal, IfSome, if◌then◌else◌, lt-ltb}
use Rattle.std.specs.declared.option.Option.{Option}
use Rattle.std.specs.Char.{is_ascii_digit}
use Rattle.std.specs.List.{list_all, position_or_len}
use Rattle.std.specs.Str.Parse.{digits_value, starts_with_minus, without_leading_sign}
use Rattle.std.proofs.lemmas.Bool.{and_parts, cases_eq}
use Rattle.std.proofs.lemmas.Bool.Decides.{nat_tests}
use Rattle.std.proofs.lemmas.Grind.{common_steps}
use Rattle.std.proofs.Math.Seq.{drop-append-add}
use Rattle.std.proofs.lemmas.List.{length-replicate}
use Rattle.std.proofs.lemmas.List.Folds.{list_all-append}
use Rattle.std.proofs.lemmas.Str.Parse.{IsNumeralModel, numerals_by_weight, digits_value_short}
use Rattle.std.proofs.lemmas.Fmt.{digits_decimal, digits_value-decimal, decimal_nonempty, length-decimal-le}
use Rattle.rf_base.specs.declared.decimal.Decimal.{Decimal}
use Rattle.rf_base.specs.Decimal.{decimal_of, is_digits, is_whole, padded, point_of, unsigned_of, with_point}
use Rattle.rf_text.specs.Decimals.{billionths_text, decimal_in, decimal_text, places}
use Rattle.rf_text.proofs.OperandsBack.{Says, word_is, then_some}
use Rattle.rf_text.proofs.PlaceLemmas.{digit_below, is_some, places_more, places_none, ten_pow}
use Rattle.rf_base.specs.Words.{is_word_byte}
use Rattle.rf_base.proofs.ListLaws.{take_word}
use Rattle.rf_base.proofs.OptionLaws.{if_map}
use Rattle.rf_base.proofs.DecimalLaws.{own, number_short, zero_digits, whole_digits}
use Rattle.rf_base.proofs.WordLaws.{digit_bytes}

-- digits by the weights of their places
abbrev weighed : List ℕ → ℕ
weighed [] = 0
weighed (d ∷ ds) = (d - 48) * 10 ^ length ds + weighed ds

by_weight : IsNumeralModel (λ ds. list_all is_ascii_digit ds ≡ true) weighed
by_weight = numerals_by_weight _ (search rules) weighed (search rules)

value_is : (ds : List ℕ) → list_all is_ascii_digit ds ≡ true → digits_value 10 ds ≡ weighed ds
value_is ds h = sym (IsNumeralModel.same by_weight ds (IsNumeralModel.to by_weight ds h))

zeros_weigh : (n : ℕ) → weighed (replicate n 48) ≡ 0
zeros_weigh zero = refl
zeros_weigh (suc n) = omega (arith, zeros_weigh n)

digit_code : (d : ℕ) → d < 10 → is_ascii_digit (48 + d) ≡ true
digit_code d h = grind (arith, nat_tests)

-- The digits of a fraction, and the zeros behind them.
record Places (n f : ℕ) : Type 0 where
  digits : list_all is_ascii_digit (places n f) ≡ true
  value : weighed (padded n (places n f)) ≡ f

-- zeros alone
nothing_padded : (n : ℕ) → padded n [] ≡ replicate n 48
unfolding padded
nothing_padded n = grind (arith, common_steps)

none_padded : (d : ℕ) (ds : List ℕ) → (list_all is_ascii_digit (padded 0 (d ∷ ds)) ≡ true) × (length (padded 0 (d ∷ ds)) ≡ 0)
unfolding padded
none_padded d ds = let none : 0 - length (d ∷ ds) ≡ 0 = omega arith in rw none (refl, refl)

-- a digit more in front
front_padded : (n d : ℕ) (ds : List ℕ) → padded (suc n) (d ∷ ds) ≡ d ∷ padded n ds
unfolding padded
front_padded n d ds = let left : suc n - length (d ∷ ds) ≡ n - length ds = omega arith in rw left refl

take_digits : (n : ℕ) (ds : List ℕ) → list_all is_ascii_digit ds ≡ true → (list_all is_ascii_digit (padded n ds) ≡ true) × (length (padded n ds) ≡ n)
take_digits n [] h = rw (nothing_padded n) (zero_digits n, length-replicate n 48)
take_digits zero (d ∷ ds) h = none_padded d ds
take_digits (suc n) (d ∷ ds) h =
    let p = and_parts (is_ascii_digit d) (list_all is_ascii_digit ds) h in
    let more = take_digits n ds p.1 in
    rw (front_padded n d ds, p.0, more.0) (refl, omega (arith, more.1))

no_places : (n : ℕ) → Places n 0
no_places n = record { digits = rw (places_none n) refl; value = rw (places_none n, nothing_padded n) (zeros_weigh n) }

more_places : (n f : ℕ) → f ≢ 0 → f / 10 ^ n < 10 → Places n (f % 10 ^ n) → Places (suc n) f
more_places n f some small p =
    let is = places_more n f some in
    let long = take_digits n (places n (f % 10 ^ n)) p.digits in
    let digit : 48 + f / 10 ^ n - 48 ≡ f / 10 ^ n = omega arith in
    record {
      digits = rw (is, digit_code (f / 10 ^ n) small, p.digits) refl;
      value = rw (is, front_padded n (48 + f / 10 ^ n) (places n (f % 10 ^ n)), long.1, p.value, digit) (omega (arith, ten_pow n));
    }

places_are : (n f : ℕ) → f < 10 ^ n → Places n f
places_are zero f h = let none : f ≡ 0 = omega arith in rw none (no_places 0)
places_are (suc n) f h = elim (cases_eq f 0) [
  | inl none ↦ rw none (no_places (suc n))
  | inr some ↦ more_places n f some (digit_below n f h) (places_are n (f % 10 ^ n) (omega (arith, ten_pow n)))
]

-- ---- the point

no_point : (b : ℕ) → is_ascii_digit b ≡ true → (b == 46) ≡ false
no_point b h = grind (arith, nat_tests)

point_place : (whole more : List ℕ) → list_all is_ascii_digit whole ≡ true → position_or_len (λ b. b == 46) more ≡ 0 → position_or_len (λ b. b == 46) (whole ++ more) ≡ length whole
point_place [] more h first = first
point_place (d ∷ whole) more h first =
    rw (no_point d (search rules)) (grind (arith, point_place whole more (search rules) first))

point_after : (whole ds : List ℕ) → list_all is_ascii_digit whole ≡ true → point_of (whole ++ 46 ∷ ds) ≡ Some (length whole)
point_after whole ds h =
    let long = length-append whole (46 ∷ ds) in
    rw (point_place whole (46 ∷ ds) h refl, lt-ltb (length whole) (length (whole ++ 46 ∷ ds)) (omega (arith, long))) refl

no_point_in : (whole : List ℕ) → list_all is_ascii_digit whole ≡ true → point_of whole ≡ None
no_point_in whole h = let place = point_place whole [] h refl in rw (rw append-nil at place) (grind (arith, nat_tests))

-- ---- without a sign

digits_some : (ds : List ℕ) → list_all is_ascii_digit ds ≡ true → 0 < length ds → is_digits ds ≡ true
unfolding is_digits
digits_some ds h some = rw h (grind (arith, nat_tests))

-- A text of so many billionths.
record Unsigned (text : List ℕ) (n : ℕ) : Type 0 where
  read : unsigned_of text ≡ Some n
  bytes : list_all is_word_byte text ≡ true
  some : 0 < length text
  first : is_ascii_digit (slice_index text 0) ≡ true

first_digit : (ds more : List ℕ) → list_all is_ascii_digit ds ≡ true → 0 < length ds → is_ascii_digit (slice_index (ds ++ more) 0) ≡ true
first_digit [] more h some = absurd (omega arith)
first_digit (d ∷ ds) more h some = let p = and_parts (is_ascii_digit d) (list_all is_ascii_digit ds) h in p.0

without_fraction : (ds : List ℕ) (n : ℕ) → list_all is_ascii_digit ds ≡ true → 0 < length ds → is_whole ds ≡ true
    → digits_value 10 ds * 1_000_000_000 ≡ n → Unsigned (ds ++ []) n
without_fraction ds n digits some whole value =
    record {
      read = rw (append-nil, no_point_in ds digits, whole, value) refl;
      bytes = rw append-nil (digit_bytes ds digits);
      some = rw append-nil some;
      first = first_digit ds [] digits some;
    }

with_fraction : (ds fs : List ℕ) (n : ℕ) → list_all is_ascii_digit ds ≡ true → 0 < length ds → is_whole ds ≡ true
    → list_all is_ascii_digit fs ≡ true → 0 < length fs
    → digits_value 10 ds * 1_000_000_000 + digits_value 10 (padded 9 fs) ≡ n → Unsigned (ds ++ 46 ∷ fs) n
with_fraction ds fs n digits some whole places more value =
    let long = length-append ds (46 ∷ fs) in
    record {
      read = rw (point_after ds fs digits, take_word ds (46 ∷ fs), drop-append-add ds (46 ∷ fs) 1, whole, digits_some fs places more, value) refl;
      bytes = rw (list_all-append is_word_byte ds (46 ∷ fs), digit_bytes ds digits, digit_bytes fs places) refl;
      some = omega (arith, long);
      first = first_digit ds (46 ∷ fs) digits some;
    }

some_places : (r : ℕ) → r ≢ 0 → 0 < length (places 9 r)
some_places r h = let is = places_more 8 r h in rw is (omega arith)

unsigned_back : (n : ℕ) → n < 10 ^ 18 → Unsigned (billionths_text n) n
unsigned_back n h =
    let few : n / 1_000_000_000 < 10 ^ 9 = omega arith in
    let small : n / 1_000_000_000 < 2 ^ 64 = omega (arith, few) in
    let ds = decimal (n / 1_000_000_000) in
    let digits = digits_decimal own (n / 1_000_000_000) small in
    let some = decimal_nonempty (n / 1_000_000_000) small in
    let whole = whole_digits ds digits some (length-decimal-le 9 (n / 1_000_000_000) (omega arith) few small) in
    let value = digits_value-decimal own (n / 1_000_000_000) small in
    elim (cases_eq (n % 1_000_000_000) 0) [
      | inl none ↦ rw none (without_fraction ds n digits some whole (rw value (omega (arith, none))))
      | inr more ↦
          let p = places_are 9 (n % 1_000_000_000) (omega arith) in
          let fraction : digits_value 10 (padded 9 (places 9 (n % 1_000_000_000))) ≡ n % 1_000_000_000 = value_is _ (take_digits 9 _ p.digits).0 ∙ p.value in
          rw (is_some (n % 1_000_000_000) more)
          (with_fraction ds (places 9 (n % 1_000_000_000)) n digits some whole p.digits (some_places _ more) (rw (value, fraction) (omega arith)))
    ]

-- ---- with it

no_sign : (b : ℕ) → is_ascii_digit b ≡ true → ((b == 45) ≡ false) × ((b == 43) ≡ false)
no_sign b h = (grind (arith, nat_tests), grind (arith, nat_tests))

signed_back : (z : ℤ) → nat_abs z < 10 ^ 18 → Says decimal_of (decimal_text z) (Some z)
unfolding decimal_text
signed_back (pos n) h =
    let u = unsigned_back n h in
    let p = no_sign (slice_index (billionths_text n) 0) u.first in
    record { read = rw (p.0, p.1, u.read) refl; valid = word_is (billionths_text n) u.some u.bytes }
signed_back (negsuc n) h =
    let u = unsigned_back (suc n) h in
    record { read = rw u.read refl; valid = word_is (45 ∷ billionths_text (suc n)) (omega arith) (rw u.bytes refl) }

pub decimal_back : (n : Decimal) → nat_abs n.0 < 10 ^ 18 → Says decimal_in (decimal_text n.0) (Some n)
decimal_back n h = let s = signed_back n.0 h in record { read = rw s.read refl; valid = s.valid }

-- ---- what is read is small

fraction_below : (ds : List ℕ) → is_digits ds ≡ true → digits_value 10 (padded 9 ds) < 10 ^ 9
unfolding is_digits
fraction_below ds h =
    let digits : list_all is_ascii_digit ds ≡ true = search rules in
    let p = take_digits 9 ds digits in
    digits_value_short own (padded 9 ds) 9 p.0 (omega (arith, p.1))

point_below : (point : Option ℕ) (word : List ℕ) → IfSome (with_point point word) (λ n. n < 10 ^ 18)
point_below None word = then_some (λ n. n < 10 ^ 18) (is_whole word) _ (λ h. let v = number_short word h in omega (arith, v))
point_below (Some i) word = then_some (λ n. n < 10 ^ 18) (is_whole (take i word) && is_digits (drop (i + 1) word)) _
    (λ h. let v = number_short (take i word) (search rules) in
    let f = fraction_below (drop (i + 1) word) (search rules) in omega (arith, v, f))

within : (o : Option ℕ) (minus : Bool) → IfSome o (λ n. n < 10 ^ 18) → IfSome o (λ n. nat_abs (if minus then neg_ℤ (pos n) else pos n) < 10 ^ 18)
within None minus h = tt
within (Some n) false h = h
within (Some zero) true h = h
within (Some (suc n)) true h = h

pub decimal_read : (word : List ℕ) → IfSome (decimal_in word) (λ n. nat_abs n.0 < 10 ^ 18)
decimal_read word =
    let unsigned = without_leading_sign word in
    if_map (λ (z : ℤ). record { 0 = z }) (λ (n : Decimal). nat_abs n.0 < 10 ^ 18) (decimal_of word)
    (if_map (λ (n : ℕ). if starts_with_minus word then neg_ℤ (pos n) else pos n) (λ z. nat_abs z < 10 ^ 18) (unsigned_of unsigned)
    (within (unsigned_of unsigned) (starts_with_minus word) (point_below (point_of unsigned) unsigned)))
