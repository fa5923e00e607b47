-- Names and numbers that are written are read back as they were.
use Rattle.std.proofs.Common.{◌≡◌, ◌<◌, ◌+◌, ◌-◌, ℕ, List, ◌&&◌, Bool, true, false, arith, refl, Some, ◌^◌, decimal, nat_le}
use Rattle.std.proofs.lemmas.Bool.Decides.{nat_tests}
use Rattle.std.proofs.lemmas.Fmt.{digits_decimal, digits_value-decimal, decimal_nonempty, length-decimal-le}
use Rattle.rf_base.specs.Decimal.{number_of}
use Rattle.rf_base.specs.Name.{IsName, is_name, name_of}
use Rattle.rf_terms.specs.declared.kind.Kind.{Kind}
use Rattle.rf_terms.specs.declared.kind.Kind.TheVariants.{Spacing}
use Rattle.rf_terms.specs.Kinds.{kind_of, roles_of, text_of}
use Rattle.rf_terms.proofs.KindLaws.{kind_read}
use Rattle.rf_log.specs.declared.line.Cut.{Cut}
use Rattle.rf_log.specs.declared.line.Cut.TheVariants.{Fix, Split}
use Rattle.rf_log.specs.LineTexts.{IsShort, cut_text, side_text}
use Rattle.rf_log.specs.Operands.{cut_of, side_of, target_in}
use Rattle.rf_readback.proofs.WordLaws.{is_word}
use Rattle.rf_base.proofs.DecimalLaws.{own, whole_digits, number_is, no_zero}
use Rattle.rf_base.proofs.WordLaws.{digit_bytes, name_bytes}

-- a word that is read as a value
pub record Says {A : Type 0} (reads : List ℕ → A) (word : List ℕ) (value : A) : Type 0 where
  pub read : reads word ≡ value
  pub valid : is_word word ≡ true

pub number_back : (n : ℕ) → IsShort n → Says number_of (decimal n) (Some n)
number_back n h =
    let low : n < 10 ^ 9 = omega arith in
    let small : n < 2 ^ 64 = omega arith in
    let digits = digits_decimal own n small in
    let some = decimal_nonempty n small in
    record {
      read = number_is (decimal n) n (whole_digits (decimal n) digits some (length-decimal-le 9 n (omega arith) low small)) (no_zero n low) (digits_value-decimal own n small);
      valid = digit_bytes (decimal n) digits;
    }

is_name_back : (name : List ℕ) → IsName name → is_name name ≡ true
is_name_back name h = let allowed = h.allowed in rw allowed (grind (arith, nat_tests, h.nonempty, h.short))

pub name_back : (name : List ℕ) → IsName name → Says name_of name (Some name)
name_back name h = record { read = rw (is_name_back name h) refl; valid = name_bytes name h.allowed }

pub side_back : (inside : Bool) → Says side_of (side_text inside) (Some inside)
side_back true = record { read = refl; valid = refl }
side_back false = record { read = refl; valid = refl }

pub cut_back : (cut : Cut) → Says cut_of (cut_text cut) (Some cut)
cut_back Fix = record { read = refl; valid = refl }
cut_back Split = record { read = refl; valid = refl }

-- the text of each kind is a word
kind_word : (kind : Kind) → is_word (text_of kind) ≡ true
kind_word Spacing = refl
kind_word _ = refl

pub kind_back : (kind : Kind) → Says kind_of (text_of kind) (Some kind)
kind_back kind = record { read = kind_read kind; valid = kind_word kind }

-- roles are counted from 1
pub target_back : (kind : Kind) (target : ℕ) → target < roles_of kind → target_in kind (target + 1) ≡ Some target
target_back kind target h =
    let within = place target (roles_of kind) h in
    let same : target + 1 - 1 ≡ target = omega arith in
    rw (within, same) refl
  where
    place : (target count : ℕ) → target < count → (nat_le 1 (target + 1) && nat_le (target + 1) count) ≡ true
    place target count h = grind (arith, nat_tests)
