-- Words and lines that are written one after another are read back as they were.
use Rattle.std.proofs.Common.{◌≡◌, ◌∙◌, ℕ, ◌≤◌, List, [], ◌∷◌, ◌++◌, Bool, true, false, length, refl, arith, ap, append-nil, length-append, nat_le}
use Rattle.std.specs.List.{list_all, flat_map}
use Rattle.std.proofs.lemmas.Bool.{and_parts}
use Rattle.std.proofs.lemmas.Bool.Decides.{nat_tests}
use Rattle.std.proofs.lemmas.List.Folds.{list_all-append}
use Rattle.std.proofs.lemmas.List.Concat.{flat_map-append}
use Rattle.rf_log.specs.Words.{is_feed, words_in, lines_in}
use Rattle.rf_log.specs.LineTexts.{spaced}
use Rattle.rf_base.specs.Words.{is_word_byte}
use Rattle.rf_base.proofs.WordLaws.{split_word, split_last}

abbrev pub is_word : List ℕ → Bool
is_word word = list_all is_word_byte word

-- a byte that is no line feed
abbrev pub is_inner : ℕ → Bool
is_inner byte = nat_le 32 byte

pub words_back : (word : List ℕ) (words : List (List ℕ)) → list_all is_word (word ∷ words) ≡ true → words_in (word ++ spaced words) ≡ word ∷ words
words_back word [] h = let p = and_parts (is_word word) true h in rw append-nil (split_last word p.0)
words_back word (next ∷ words) h =
    let p = and_parts (is_word word) (list_all is_word (next ∷ words)) h in
    split_word word (next ++ spaced words) p.0 ∙ ap (λ more. word ∷ more) (words_back next words p.1)

inner_byte : (b : ℕ) → is_word_byte b ≡ true → is_inner b ≡ true
inner_byte b h = grind (arith, nat_tests)

pub inner_word : (word : List ℕ) → is_word word ≡ true → list_all is_inner word ≡ true
inner_word [] h = refl
inner_word (b ∷ word) h =
    let p = and_parts (is_word_byte b) (list_all is_word_byte word) h in
    rw (inner_byte b p.0, inner_word word p.1) refl

pub inner_both : (xs ys : List ℕ) → list_all is_inner xs ≡ true → list_all is_inner ys ≡ true → list_all is_inner (xs ++ ys) ≡ true
inner_both xs ys h k = rw (list_all-append is_inner xs ys, h, k) refl

inner_spaced : (words : List (List ℕ)) → list_all is_word words ≡ true → list_all is_inner (spaced words) ≡ true
inner_spaced [] h = refl
inner_spaced (word ∷ words) h =
    let p = and_parts (is_word word) (list_all is_word words) h in
    inner_both word (spaced words) (inner_word word p.0) (inner_spaced words p.1)

-- words that are joined have no line feed
pub inner_words : (word : List ℕ) (words : List (List ℕ)) → list_all is_word (word ∷ words) ≡ true → list_all is_inner (word ++ spaced words) ≡ true
inner_words word words h =
    let p = and_parts (is_word word) (list_all is_word words) h in
    inner_both word (spaced words) (inner_word word p.0) (inner_spaced words p.1)

no_feed : (b : ℕ) → is_inner b ≡ true → is_feed b ≡ false
no_feed b h = grind (arith, nat_tests)

-- a line with its line feed, and what comes after it
pub lines_after : (line rest : List ℕ) → list_all is_inner line ≡ true → lines_in (line ++ 10 ∷ rest) ≡ line ∷ lines_in rest
lines_after [] rest h = refl
lines_after (b ∷ line) rest h =
    let p = and_parts (is_inner b) (list_all is_inner line) h in
    rw (no_feed b p.0, lines_after line rest p.1) refl

-- a last line without its line feed
pub lines_last : (b : ℕ) (line : List ℕ) → list_all is_inner (b ∷ line) ≡ true → lines_in (b ∷ line) ≡ (b ∷ line) ∷ []
lines_last b [] h =
    let p = and_parts (is_inner b) true h in
    rw (no_feed b p.0) refl
lines_last b (c ∷ line) h =
    let p = and_parts (is_inner b) (list_all is_inner (c ∷ line)) h in
    rw (no_feed b p.0, lines_last c line p.1) refl

-- words after spaces are as long as there are words, or longer
pub spaced_long : (words : List (List ℕ)) → length words ≤ length (spaced words)
spaced_long [] = omega arith
spaced_long (word ∷ words) =
    let more = spaced_long words in
    let both = length-append word (spaced words) in
    omega arith

pub spaced_both : (these those : List (List ℕ)) → spaced (these ++ those) ≡ spaced these ++ spaced those
spaced_both these those = flat_map-append (λ word. 32 ∷ word) these those

-- the words of each, one after another
pub spaced_all : {X : Type 0} (words : X → List (List ℕ)) (xs : List X) → flat_map (λ x. spaced (words x)) xs ≡ spaced (flat_map words xs)
spaced_all words [] = refl
spaced_all words (x ∷ xs) = rw (spaced_both (words x) (flat_map words xs), spaced_all words xs) refl
