-- The lines of the bytes of a show's text.
use Rattle.std.proofs.Common.{◌≡◌, ◌<◌, ◌≤◌, ◌-◌, ◌++◌, ◌∙◌, ℕ, List, [], ◌∷◌, ◌&&◌, Bool, true, false, not, length, length-append, map, append_assoc, arith, refl, rules, ap, ◌^◌, ◌==◌}
use Rattle.std.proofs.Common.{codes, decimal, slice_index, le-ltb}
use Rattle.std.specs.List.{AllByRecursion, list_all, flat_map}
use Rattle.std.proofs.lemmas.Bool.Decides.{nat_tests}
use Rattle.std.proofs.lemmas.Fmt.{decimal_nonempty, digits_decimal, length-decimal-le}
use Rattle.std.proofs.lemmas.List.Folds.{list_all-append}
use Rattle.std.proofs.lemmas.List.Sums.{AllPass-from_list_all}
use Rattle.rf_base.proofs.ScriptLaws.{all_lines-ended}
use Rattle.rf_base.specs.Lines.{joined, spaced}
use Rattle.rf_base.specs.Script.{HasNoFeed, all_lines, ended_line, is_over, short}
use Rattle.rf_text.specs.declared.command.Command.{Command}
use Rattle.rf_text.specs.CommandTexts.{command_text_of, command_words}
use Rattle.rf_text.specs.Shows.{command_line, comment_words, show_lines, show_text_of}
use Rattle.rf_text.specs.TextLines.{TextHasLines, line_with}
use Rattle.rf_text.specs.Words.{is_word}
use Rattle.rf_text.proofs.CommandsBack.{IsBack}
use Rattle.rf_text.proofs.LinesRead.{show_said}
use Rattle.rf_text.proofs.OperandsBack.{word_is}
use Rattle.rf_base.specs.Words.{is_word_byte}
use Rattle.rf_base.proofs.DecimalLaws.{own}
use Rattle.rf_base.proofs.WordLaws.{digit_bytes}

-- ---- bytes that neither end a line nor are left out at its end

abbrev is_plain : ℕ → Bool
is_plain byte = not (byte == 10) && not (byte == 13)

plain_byte : (b : ℕ) → is_word_byte b ≡ true → is_plain b ≡ true
plain_byte b h = grind (arith, nat_tests)

plain_bytes : (word : List ℕ) → list_all is_word_byte word ≡ true → list_all is_plain word ≡ true
plain_bytes [] h = refl
plain_bytes (b ∷ word) h =
    rw (plain_byte b (search rules), plain_bytes word (search rules)) refl

plain_spaced : (words : List (List ℕ)) → list_all is_word words ≡ true → list_all is_plain (spaced words) ≡ true
plain_spaced [] h = refl
plain_spaced (word ∷ words) h =
    rw (list_all-append is_plain word (spaced words), plain_bytes word (search rules), plain_spaced words (search rules)) refl

plain_joined : (words : List (List ℕ)) → list_all is_word words ≡ true → list_all is_plain (joined words) ≡ true
plain_joined [] h = refl
plain_joined (word ∷ words) h = plain_spaced (word ∷ words) h

-- no byte of the line ends it
plain_free : (line : List ℕ) → list_all is_plain line ≡ true → HasNoFeed line
plain_free line h = λ k d low. let plain = AllPass-from_list_all is_plain line h k d low in grind (arith, nat_tests)

-- its last byte is no carriage return
last_byte : (line : List ℕ) → list_all is_plain line ≡ true → (slice_index line (length line - 1) == 13) ≡ false
last_byte [] h = refl
last_byte (b ∷ line) h =
    let plain = AllPass-from_list_all is_plain (b ∷ line) h (length (b ∷ line) - 1) 0 (omega arith) in
    grind (arith, nat_tests)

plain_line : (line : List ℕ) → list_all is_plain line ≡ true → length line ≤ 4096 → ended_line line ≡ short line
plain_line line h few = rw (le-ltb 4096 (length line) few, last_byte line h) refl

-- the first line of some bytes
plain_first : (words : List (List ℕ)) (rest : List ℕ) → list_all is_word words ≡ true → length (joined words) ≤ 4096
    → all_lines (joined words ++ 10 ∷ rest) ≡ short (joined words) ∷ all_lines rest
plain_first words rest h few =
    let plain = plain_joined words h in
    all_lines-ended (joined words) rest (plain_free (joined words) plain) ∙ ap (λ line. line ∷ all_lines rest) (plain_line (joined words) plain few)

-- ---- commands

commands_have : (commands : List Command) → AllByRecursion IsBack commands → all_lines (flat_map command_line commands) ≡ map line_with commands
unfolding command_line
commands_have [] h = refl
commands_have (command ∷ commands) h =
    let rest = flat_map command_line commands in
    ap all_lines (append_assoc (command_text_of command) (10 ∷ []) rest)
    ∙ (plain_first (command_words command) rest h.0.valid h.0.fits ∙ ap (λ lines. line_with command ∷ lines) (commands_have commands h.1))

-- each line has its line feed
as_many : (commands : List Command) → length commands ≤ length (flat_map command_line commands)
unfolding command_line
as_many [] = omega arith
as_many (command ∷ commands) =
    let more = as_many commands in
    omega (arith, length-append (command_text_of command ++ 10 ∷ []) (flat_map command_line commands), length-append (command_text_of command) (10 ∷ []))

-- ---- the comment

-- a comment with a number, and what is after it
comment_first : (n : ℕ) (rest : List ℕ) → n < 2 ^ 64
    → all_lines (joined (codes "#" ∷ codes "show" ∷ decimal n ∷ []) ++ 10 ∷ rest) ≡ short (joined (codes "#" ∷ codes "show" ∷ decimal n ∷ [])) ∷ all_lines rest
comment_first n rest small =
    let digits = digit_bytes (decimal n) (digits_decimal own n small) in
    let words : list_all is_word (codes "#" ∷ codes "show" ∷ decimal n ∷ []) ≡ true = rw (word_is (decimal n) (decimal_nonempty n small) digits) refl in
    let few : length (joined (codes "#" ∷ codes "show" ∷ decimal n ∷ [])) ≤ 4096 = omega (arith, length-decimal-le 20 n (omega arith) (omega arith) small, length-append (decimal n) []) in
    plain_first (codes "#" ∷ codes "show" ∷ decimal n ∷ []) rest words few

pub text_has : TextHasLines
text_has show limit whole within small =
    let commands = show_lines show in
    let rest = flat_map command_line commands in
    let parts : show_text_of show ≡ joined (comment_words show) ++ 10 ∷ rest = simp append_assoc in
    let count : length commands < 2 ^ 64 =
    omega (arith, as_many commands, ap length parts, length-append (joined (comment_words show)) (10 ∷ rest)) in
    let under : is_over limit (show_text_of show) ≡ false = le-ltb limit (length (show_text_of show)) within in
    let all : all_lines (show_text_of show) ≡ short (joined (comment_words show)) ∷ map line_with commands =
    ap all_lines parts ∙ (comment_first (length commands) rest count ∙ ap (λ lines. short (joined (comment_words show)) ∷ lines) (commands_have commands (show_said show whole))) in
    rw under all
