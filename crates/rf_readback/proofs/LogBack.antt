-- What is written of a log is read back, up to a line that ends it.
use Rattle.std.proofs.Common.{◌≡◌, ◌∙◌, ◌+◌, ◌⊎◌, inl, inr, ℕ, List, [], ◌∷◌, ◌++◌, Bool, true, false, ◌||◌, length, map, refl, sym, arith, ap, subst, Some, None, Result, Ok, Err}
use Rattle.std.proofs.Common.{append-nil, append_assoc, codes, is_some}
use Rattle.std.specs.declared.option.Option.{Option}
use Rattle.std.specs.Char.{is_ascii_digit}
use Rattle.std.specs.List.{All, AllZip, flat_map, list_all, join_with_byte}
use Rattle.std.specs.Str.{bytes_eq}
use Rattle.std.specs.Cmp.Lexicographic.{bytes_decides}
use Rattle.std.proofs.lemmas.Bool.{and_parts}
use Rattle.std.proofs.lemmas.Bool.Decides.{nat_tests}
use Rattle.std.proofs.lemmas.List.Elements.{All-head, All-tail}
use Rattle.std.proofs.lemmas.List.Splits.{join_with_byte-slice_split}
use Rattle.rf_base.specs.Decimal.{is_digits, is_whole, number_of}
use Rattle.rf_base.specs.Name.{IsName}
use Rattle.rf_log.specs.declared.line.LogLine.{LogLine}
use Rattle.rf_log.specs.LineTexts.{line_text_of, IsShortLine}
use Rattle.rf_log.specs.LogText.{IsLineBelow, LogData, before_ending, is_ending, is_spent, log_with}
use Rattle.rf_log.specs.Operands.{only}
use Rattle.rf_log.specs.Reading.{line_in}
use Rattle.rf_log.specs.Words.{lines_in, words_in}
use Rattle.rf_readback.specs.Law.{IsEnding, IsLineEnd, WrittenReadsBack}
use Rattle.rf_readback.specs.Same.{IsSameLine}
use Rattle.rf_readback.proofs.WordLaws.{is_inner, is_word, inner_both, inner_word, inner_words, lines_after, lines_last}
use Rattle.rf_readback.proofs.NamesBack.{IsGrown, grown_same, grown_then, line_kept}
use Rattle.rf_readback.proofs.LinesBack.{first_word, other_words, line_bytes, text_is, line_valid, line_back, no_ending}
use Rattle.rf_base.proofs.WordLaws.{digit_bytes}

-- ---- the line that ends a log

same_word : (word other : List ℕ) → bytes_eq word other ≡ true → word ≡ other
same_word word other h = (bytes_decides word other).0 h

number_digits : (word : List ℕ) → is_some (number_of word) ≡ true → list_all is_ascii_digit word ≡ true
unfolding number_of is_whole is_digits
number_digits word h = grind (arith, nat_tests)

number_words : (words : List (List ℕ)) → is_some (only number_of words) ≡ true → list_all is_word words ≡ true
number_words [] h = absurd (cc)
number_words (word ∷ []) h = rw (digit_bytes word (number_digits word h)) refl
number_words (word ∷ next ∷ words) h = absurd (cc)

spent_words : (words : List (List ℕ)) → is_spent words ≡ true → list_all is_word words ≡ true
spent_words [] h = absurd (cc)
spent_words (word ∷ words) h =
    let p = and_parts (bytes_eq word (codes "spent")) (is_some (only number_of words)) h in
    rw (same_word word (codes "spent") p.0, number_words words p.1) refl

joined_inner : (words : List (List ℕ)) → list_all is_word words ≡ true → list_all is_inner (join_with_byte 32 words) ≡ true
joined_inner [] h = refl
joined_inner (word ∷ []) h = let p = and_parts (is_word word) true h in inner_word word p.0
joined_inner (word ∷ next ∷ words) h =
    let p = and_parts (is_word word) (list_all is_word (next ∷ words)) h in
    inner_both word (32 ∷ join_with_byte 32 (next ∷ words)) (inner_word word p.0) (joined_inner (next ∷ words) p.1)

spent_inner : (line : List ℕ) → is_spent (words_in line) ≡ true → list_all is_inner line ≡ true
spent_inner line h = subst (λ bytes. list_all is_inner bytes ≡ true) (join_with_byte-slice_split 32 line) (joined_inner (words_in line) (spent_words (words_in line) h))

or_parts : (a b c : Bool) → (a || b || c) ≡ true → (a ≡ true) ⊎ ((b ≡ true) ⊎ (c ≡ true))
or_parts true b c h = inl refl
or_parts false true c h = inr (inl refl)
or_parts false false c h = inr (inr h)

-- a line that ends a log has no line feed
ending_inner : (line : List ℕ) → is_ending line ≡ true → list_all is_inner line ≡ true
ending_inner line h =
    elim (or_parts (bytes_eq line (codes "plan")) (bytes_eq line (codes "refuted")) (is_spent (words_in line)) h) [
      | inl a ↦ rw (same_word line (codes "plan") a) refl
      | inr more ↦ elim more [
        | inl b ↦ rw (same_word line (codes "refuted") b) refl
        | inr c ↦ spent_inner line c
      ]
    ]

last_ended : (line : List ℕ) → is_ending line ≡ true → before_ending (lines_in line) ≡ []
last_ended [] e = refl
last_ended (b ∷ line) e =
    let one : lines_in (b ∷ line) ≡ (b ∷ line) ∷ [] = lines_last b line (ending_inner (b ∷ line) e) in
    rw (one, e) refl

ended : (line rest : List ℕ) → is_ending line ≡ true → IsLineEnd rest → before_ending (lines_in (line ++ rest)) ≡ []
ended line [] e h = rw append-nil (last_ended line e)
ended line (byte ∷ rest) e h =
    let one : lines_in (line ++ 10 ∷ rest) ≡ line ∷ lines_in rest = lines_after line rest (ending_inner line e) in
    rw (h, one, e) refl

nothing_left : (tail : List ℕ) → (tail ≡ []) ⊎ IsEnding tail → before_ending (lines_in tail) ≡ []
nothing_left tail (inl none) = rw none refl
nothing_left tail (inr end) = rw end.whole (ended end.line end.rest end.ending end.end)

-- ---- the lines

one_more : (line : List ℕ) (lines : List (List ℕ)) → is_ending line ≡ false → before_ending (line ∷ lines) ≡ line ∷ before_ending lines
one_more line lines h = rw h refl

-- one line more is read
log_more : (names more : List (List ℕ)) (done : List LogLine) (bytes : List ℕ) (rest : List (List ℕ)) (line : LogLine) → line_in names bytes ≡ Some (line, more)
    → log_with (record { names = names; lines = done }) (bytes ∷ rest) ≡ log_with (record { names = more; lines = done ++ line ∷ [] }) rest
log_more names more done bytes rest line e =
    let P : Option (LogLine × List (List ℕ)) → Type 0 = λ o.
    (elim o as (λ _. Result LogData ℕ) [
      | None ↦ Err (length done + 1)
      | Some read ↦ log_with (record { names = read.1; lines = done ++ read.0 ∷ [] }) rest
    ]) ≡ log_with (record { names = more; lines = done ++ line ∷ [] }) rest in
    subst P (sym e) refl

module _ (names : List (List ℕ)) (named : All IsName names) where
  lines_back : (lines : List LogLine) (tail : List ℕ) → All (IsLineBelow (length names)) lines → All IsShortLine lines → before_ending (lines_in tail) ≡ []
      → before_ending (lines_in (flat_map (line_text_of names) lines ++ tail)) ≡ map (line_bytes names) lines
  lines_back [] tail below short h = h
  lines_back (line ∷ lines) tail below short h =
      let low = All-head (IsLineBelow (length names)) line lines below in
      let few = All-head IsShortLine line lines short in
      let more = flat_map (line_text_of names) lines ++ tail in
      let text : flat_map (line_text_of names) (line ∷ lines) ++ tail ≡ line_bytes names line ++ 10 ∷ more = rw (text_is names line) (simp append_assoc refl) in
      let inner = inner_words (first_word line) (other_words names line) (line_valid names named line low few) in
      ap (λ bytes. before_ending (lines_in bytes)) text ∙ ap before_ending (lines_after (line_bytes names line) more inner)
      ∙ one_more (line_bytes names line) (lines_in more) (no_ending names named line low few)
      ∙ ap (λ rest. line_bytes names line ∷ rest) (lines_back lines tail (All-tail (IsLineBelow (length names)) line lines below) (All-tail IsShortLine line lines short) h)

  -- what is read of lines
  record ReadLines (others : List (List ℕ)) (done lines : List LogLine) : Type 0 where
    pub read : List LogLine
    pub more : List (List ℕ)
    pub is : log_with (record { names = others; lines = done }) (map (line_bytes names) lines) ≡ Ok (record { names = more; lines = done ++ read })
    pub same : AllZip (IsSameLine names more) lines read
    pub grown : IsGrown others more

  log_back : (others : List (List ℕ)) (done lines : List LogLine) → All (IsLineBelow (length names)) lines → All IsShortLine lines → ReadLines others done lines
  log_back others done [] below short =
      record { read = []; more = others; is = rw append-nil refl; same = tt; grown = grown_same others }
  log_back others done (line ∷ lines) below short =
      let one = line_back names named others line (All-head (IsLineBelow (length names)) line lines below) (All-head IsShortLine line lines short) in
      let rest = log_back one.more (done ++ one.read ∷ []) lines (All-tail (IsLineBelow (length names)) line lines below) (All-tail IsShortLine line lines short) in
      record {
        read = one.read ∷ rest.read;
        more = rest.more;
        is = log_more others one.more done (line_bytes names line) (map (line_bytes names) lines) one.read one.is ∙ rest.is
            ∙ ap (λ all. Ok (record { names = rest.more; lines = all })) (append_assoc done (one.read ∷ []) rest.read);
        same = (line_kept names one.more rest.more rest.grown line one.read one.same, rest.same);
        grown = grown_then others one.more rest.more one.grown rest.grown;
      }

pub reads_back : WrittenReadsBack
reads_back names lines tail named below short end =
    let split = lines_back names named lines tail below short (nothing_left tail end) in
    let all = log_back names named [] [] lines below short in
    record { log = record { names = all.more; lines = all.read }; read = ap (log_with (record { names = []; lines = [] })) split ∙ all.is; same = all.same }
