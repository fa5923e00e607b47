-- Names and numbers that are written are read back as they were.
use Rattle.std.proofs.Common.{◌≡◌, ◌<◌, ℕ, List, Bool, true, false, length, arith, refl, rules, Some, None, ◌^◌, decimal, if◌then◌else◌, IfSome}
use Rattle.std.specs.List.{list_all}
use Rattle.std.specs.Str.Parse.{digits_value}
use Rattle.std.proofs.lemmas.Bool.Decides.{nat_tests}
use Rattle.std.proofs.lemmas.Fmt.{digits_decimal, digits_value-decimal, decimal_nonempty, length-decimal-le}
use Rattle.rf_base.specs.Decimal.{number_of}
use Rattle.rf_base.specs.FileName.{file_name_of, is_file_name}
use Rattle.rf_base.specs.Name.{is_name, name_of}
use Rattle.rf_text.specs.Words.{is_word}
use Rattle.rf_base.specs.Words.{is_word_byte}
use Rattle.rf_base.proofs.DecimalLaws.{number_short, own, whole_digits, number_is, no_zero}
use Rattle.rf_base.proofs.WordLaws.{digit_bytes, name_bytes}

-- a word that is read as a value
pub record Says {A : Type 0} (reads : List ℕ → A) (word : List ℕ) (value : A) : Type 0 where
  pub read : reads word ≡ value
  pub valid : is_word word ≡ true

pub word_is : (word : List ℕ) → 0 < length word → list_all is_word_byte word ≡ true → is_word word ≡ true
word_is word some bytes = rw bytes (grind (arith, nat_tests))

pub number_back : (n : ℕ) → n < 10 ^ 9 → Says number_of (decimal n) (Some n)
number_back n h =
    let small : n < 2 ^ 64 = omega arith in
    let digits = digits_decimal own n small in
    let some = decimal_nonempty n small in
    record {
      read = number_is (decimal n) n (whole_digits (decimal n) digits some (length-decimal-le 9 n (omega arith) h small)) (no_zero n h) (digits_value-decimal own n small);
      valid = word_is (decimal n) some (digit_bytes (decimal n) digits);
    }

pub name_back : (name : List ℕ) → is_name name ≡ true → Says name_of name (Some name)
name_back name h = record { read = rw h refl; valid = word_is name (grind (arith, nat_tests)) (name_bytes name (search rules)) }

pub file_back : (file : List ℕ) → is_file_name file ≡ true → Says file_name_of file (Some file)
file_back file h = record { read = rw h refl; valid = word_is file (grind (arith, nat_tests)) (search rules) }

-- a value that is there under a test
pub then_some : {A : Type 0} (P : A → Type 0) (test : Bool) (value : A) → (test ≡ true → P value) → IfSome (if test then Some value else None) P
then_some P true value h = h refl
then_some P false value h = tt

pub name_read : (word : List ℕ) → IfSome (name_of word) (λ name. is_name name ≡ true)
name_read word = then_some (λ name. is_name name ≡ true) (is_name word) word (λ h. h)

pub number_read : (word : List ℕ) → IfSome (number_of word) (λ n. n < 10 ^ 9)
unfolding number_of
number_read word = then_some (λ n. n < 10 ^ 9) _ (digits_value 10 word) (λ h. number_short word (search rules))

pub file_read : (word : List ℕ) → IfSome (file_name_of word) (λ name. is_file_name name ≡ true)
file_read word = then_some (λ name. is_file_name name ≡ true) (is_file_name word) word (λ h. h)
