-- Words of a line, and its parts.
use Rattle.std.proofs.Common.{◌≡◌, ℕ, List, [], ◌∷◌, true, not, length, arith, sym, Some, ◌==◌}
use Rattle.std.specs.Str.{IsAscii, IsUtf8}
use Rattle.std.proofs.lemmas.Bool.{and_parts}
use Rattle.std.proofs.lemmas.Bool.Decides.{nat_tests}
use Rattle.std.proofs.lemmas.Str.{IsUtf8-from_ascii}
use Rattle.std.proofs.lemmas.Str.Ascii.{IsAscii-nil, IsAscii-cons}
use Rattle.std.specs.List.{list_all, slice_split}
use Rattle.rf_text.specs.Words.{is_word, words_of}
use Rattle.rf_base.specs.Words.{is_space, is_word_byte}
use Rattle.rf_base.proofs.OptionLaws.{some_when}

-- ---- a word is text

low : (bytes : List ℕ) → list_all is_word_byte bytes ≡ true → IsAscii bytes
low [] h = IsAscii-nil
low (b ∷ more) h =
    let both = and_parts (is_word_byte b) (list_all is_word_byte more) h in
    let byte = both.0 in
    IsAscii-cons b more (grind (arith, nat_tests)) (low more both.1)

word_text : (word : List ℕ) → is_word word ≡ true → IsUtf8 word
word_text word h = IsUtf8-from_ascii word (low word (and_parts (not (length word == 0)) (list_all is_word_byte word) h).1)

pub first_text : (line word : List ℕ) (words : List (List ℕ)) → Some (word ∷ words) ≡ words_of line → IsUtf8 word
unfolding words_of
first_text line word words h =
    let p = some_when (list_all is_word (slice_split is_space line)) (slice_split is_space line) (word ∷ words) (sym h) in
    let all = p.0 in
    word_text word (and_parts (is_word word) (list_all is_word words) (rw p.1 at all)).0
