-- Words that are followed by a space, or by nothing, are split off whole.
use Rattle.std.proofs.Common.{◌≡◌, ℕ, true, false, arith, ◌++◌, List, ◌∷◌, refl, [], ◌&&◌, Bool}
use Rattle.std.proofs.lemmas.Bool.Decides.{nat_tests}
use Rattle.rf_base.specs.Words.{is_space, is_word_byte}
use Rattle.std.proofs.lemmas.Bool.{and_parts}
use Rattle.std.specs.List.{list_all, slice_split}
use Rattle.std.specs.Char.{is_ascii_digit}
use Rattle.rf_base.specs.Name.{is_name_byte}

pub no_space : (b : ℕ) → is_word_byte b ≡ true → is_space b ≡ false
no_space b h = grind (arith, nat_tests)

pub split_word : (word more : List ℕ) → list_all is_word_byte word ≡ true → slice_split is_space (word ++ 32 ∷ more) ≡ word ∷ slice_split is_space more
split_word [] more h = refl
split_word (b ∷ word) more h =
    let p = and_parts (is_word_byte b) (list_all is_word_byte word) h in
    rw (no_space b p.0, split_word word more p.1) refl

pub split_last : (word : List ℕ) → list_all is_word_byte word ≡ true → slice_split is_space word ≡ word ∷ []
split_last [] h = refl
split_last (b ∷ word) h =
    let p = and_parts (is_word_byte b) (list_all is_word_byte word) h in
    rw (no_space b p.0, split_last word p.1) refl

pub digit_byte : (b : ℕ) (more : Bool) → (is_ascii_digit b && more) ≡ true → (is_word_byte b ≡ true) × (more ≡ true)
digit_byte b more h = grind (arith, nat_tests)

pub digit_bytes : (ds : List ℕ) → list_all is_ascii_digit ds ≡ true → list_all is_word_byte ds ≡ true
digit_bytes [] h = refl
digit_bytes (b ∷ ds) h = let p = digit_byte b (list_all is_ascii_digit ds) h in rw (p.0, digit_bytes ds p.1) refl

pub name_byte : (b : ℕ) (more : Bool) → (is_name_byte b && more) ≡ true → (is_word_byte b ≡ true) × (more ≡ true)
name_byte b more h = grind (arith, nat_tests)

pub name_bytes : (word : List ℕ) → list_all is_name_byte word ≡ true → list_all is_word_byte word ≡ true
name_bytes [] h = refl
name_bytes (b ∷ word) h = let p = name_byte b (list_all is_name_byte word) h in rw (p.0, name_bytes word p.1) refl
