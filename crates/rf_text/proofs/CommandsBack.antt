-- The line of a command is read back as the command.
use Rattle.std.proofs.Common.{◌≡◌, ◌≤◌, ◌+◌, ◌++◌, ℕ, List, [], ◌∷◌, Bool, true, length, length-append, append-nil, arith, refl, rules, Some, None, Ok, inl, inr, subst}
use Rattle.std.specs.Prelude.{IfSome, find, nat_le, option_map, ok_or}
use Rattle.std.specs.declared.option.Option.{Option}
use Rattle.std.proofs.lemmas.Option.{IfSome_then}
use Rattle.std.specs.List.{AllByRecursion, list_all, slice_split}
use Rattle.std.specs.Str.{bytes_eq}
use Rattle.rf_base.specs.Lines.{joined, spaced}
use Rattle.rf_show.specs.After.{is_edit}
use Rattle.rf_text.specs.declared.command.Command.{Command}
use Rattle.rf_text.specs.declared.command.Command.TheVariants.{Change}
use Rattle.rf_text.specs.declared.command.UnknownLine.{UnknownLine}
use Rattle.rf_text.specs.Commands.{command_by, command_in, command_of, command_rows, command_with, edit_rows, edit_by, with_row, IsAskable}
use Rattle.rf_text.specs.CommandTexts.{command_text_of, command_words}
use Rattle.rf_text.specs.Shapes.{Row, Values, made, row_of, row_read, values}
use Rattle.rf_text.specs.Words.{is_word, words_of as words_in}
use Rattle.rf_text.proofs.RoomLemmas.{room, values_room}
use Rattle.rf_text.proofs.ShapesBack.{AreValues, values_back, values_read, words_of}
use Rattle.rf_base.specs.Words.{is_space}
use Rattle.rf_base.proofs.WordLaws.{split_last, split_word}
use Rattle.std.proofs.lemmas.Bool.{cases_Bool, leb-true}
use Rattle.rf_base.proofs.OptionLaws.{if_any, if_found, if_map}

-- ---- rows

made_back : {Made : Type 0} (row : Row Made) (w : Values row.shape) → AreValues row.shape w → row_read row (words_of row.shape w) ≡ Some (made row w)
made_back row w h = let back = values_back row.shape w h in rw back.read refl

if_row : {Made : Type 0} (P : Made → Type 0) (row : Row Made) → ((w : Values row.shape) → AreValues row.shape w → P (made row w)) → (words : List (List ℕ)) → IfSome (row_read row words) P
if_row P row each words = if_map (made row) P (values row.shape words) (IfSome_then (values row.shape words) (values_read row.shape words) each)

-- what holds of each row holds of the row of a word
found : {A : Type 0} (P : A → Type 0) (test : A → Bool) (xs : List A) → AllByRecursion P xs → IfSome (find test xs) P
found P test [] h = tt
found P test (x ∷ xs) h =
    let more = found P test xs h.1 in
    elim (cases_Bool (test x)) [ inl on ↦ rw on h.0 | inr off ↦ rw off more ]

all_then : {A : Type 0} (P Q : A → Type 0) (xs : List A) → ((x : A) → P x → Q x) → AllByRecursion P xs → AllByRecursion Q xs
all_then P Q [] f h = tt
all_then P Q (x ∷ xs) f h = (f x h.0, all_then P Q xs f h.1)

-- ---- what holds of each row: the row alone says it

abbrev is_askable : Command → Bool
is_askable (Change edit) = is_edit edit
is_askable _ = true

-- A row is found by its first word, and what it makes is written as the row says, in one line, and can be asked of a show.
abbrev IsLine : {Made : Type 0} → (Made → Command) → (Option Made → Option Command) → Row Made → Type 0
IsLine command read row =
    ((operands : List (List ℕ)) → command_by row.verb operands ≡ read (row_read row operands)) × ((is_word row.verb ≡ true)
    × (((w : Values row.shape) → command_words (command (made row w)) ≡ row.verb ∷ words_of row.shape w)
    × (((w : Values row.shape) → is_askable (command (made row w)) ≡ true) × (nat_le (length row.verb + room row.shape) 4096 ≡ true))))

edits : AllByRecursion (IsLine Change (option_map Change)) edit_rows
edits = search rules

commands : AllByRecursion (IsLine (λ command. command) (λ read. read)) command_rows
commands = search rules

-- ---- all commands

-- a command that is read back from its words, which fit into a line
pub record IsBack (command : Command) : Type 0 where
  pub read : command_with (command_words command) ≡ Some command
  pub valid : list_all is_word (command_words command) ≡ true
  pub fits : length (command_text_of command) ≤ 4096

-- what holds of each command that a row can make
abbrev Makes : {Made : Type 0} → (Command → Type 0) → (Made → Command) → Row Made → Type 0
Makes P command row = (w : Values row.shape) → AreValues row.shape w → P (command (made row w))

line_back : {Made : Type 0} (command : Made → Command) (read : Option Made → Option Command) → ((x : Made) → read (Some x) ≡ Some (command x))
    → (row : Row Made) → IsLine command read row → Makes IsBack command row
line_back command read same row line w h =
    let back = values_back row.shape w h in
    let words = line.1.1.0 w in
    record {
      read = rw (words, line.0 (words_of row.shape w), made_back row w h) (same (made row w));
      valid = rw (words, line.1.0, back.valid) refl;
      fits = rw words (omega (arith, length-append row.verb (spaced (words_of row.shape w)), values_room row.shape w h, leb-true _ 4096 line.1.1.1.1));
    }

edits_back : AllByRecursion (Makes IsBack Change) edit_rows
edits_back = all_then (IsLine Change (option_map Change)) (Makes IsBack Change) edit_rows (line_back Change (option_map Change) (λ x. refl)) edits

commands_back : AllByRecursion (Makes IsBack (λ command. command)) command_rows
commands_back = all_then (IsLine (λ command. command) (λ read. read)) (Makes IsBack (λ command. command)) command_rows (line_back (λ command. command) (λ read. read) (λ x. refl)) commands

-- the command of a first word and of its operands is read back
pub edit_back : (verb : List ℕ) → IfSome (row_of edit_rows verb) (Makes IsBack Change)
edit_back verb = found (Makes IsBack Change) (λ row. bytes_eq verb row.verb) edit_rows edits_back

pub command_row_back : (verb : List ℕ) → IfSome (row_of command_rows verb) (Makes IsBack (λ command. command))
command_row_back verb = found (Makes IsBack (λ command. command)) (λ row. bytes_eq verb row.verb) command_rows commands_back

-- what holds of the command of each row holds of that of each line
module _ (P : Command → Type 0) (of_edits : AllByRecursion (Makes P Change) edit_rows) (of_commands : AllByRecursion (Makes P (λ command. command)) command_rows) where
  with_edit : (verb : List ℕ) (operands : List (List ℕ)) → IfSome (option_map Change (edit_by verb operands)) P
  with_edit verb operands =
      if_map Change P (edit_by verb operands)
      (if_found (λ row. row_read row operands) (Makes P Change) (λ edit. P (Change edit)) (row_of edit_rows verb)
      (found (Makes P Change) (λ row. bytes_eq verb row.verb) edit_rows of_edits) (λ row each. if_row (λ edit. P (Change edit)) row each operands))

  with_any : (o : Option (Row Command)) (verb : List ℕ) (operands : List (List ℕ)) → IfSome o (Makes P (λ command. command)) → IfSome (with_row o verb operands) P
  with_any (Some row) verb operands each = if_row P row each operands
  with_any None verb operands each = with_edit verb operands

  with_words : (words : List (List ℕ)) → IfSome (command_with words) P
  with_words [] = tt
  with_words (word ∷ operands) =
      with_any (row_of command_rows word) word operands (found (Makes P (λ command. command)) (λ row. bytes_eq word row.verb) command_rows of_commands)

  of_line : (line : List ℕ) → IfSome (command_in line) P
  of_line line = if_any command_with P (words_in line) with_words

askable : (command : Command) → is_askable command ≡ true → IsAskable command
askable (Change edit) h = h
askable _ h = tt

-- what a line says can be asked of a show
pub line_askable : (line : List ℕ) (command : Command) → Some command ≡ command_in line → IsAskable command
line_askable line command is =
    let all = of_line IsAskable (all_then (IsLine Change (option_map Change)) (Makes IsAskable Change) edit_rows (λ row line w _. askable (Change (made row w)) (line.1.1.1.0 w)) edits)
    (all_then (IsLine (λ command. command) (λ read. read)) (Makes IsAskable (λ command. command)) command_rows (λ row line w _. askable (made row w) (line.1.1.1.0 w)) commands) line in
    rw (← is) at all

split_words : (word : List ℕ) (words : List (List ℕ)) → list_all is_word (word ∷ words) ≡ true → slice_split is_space (word ++ spaced words) ≡ word ∷ words
split_words word [] h = rw append-nil (split_last word (search rules))
split_words word (next ∷ words) h = rw (split_word word (next ++ spaced words) (search rules), split_words next words (search rules)) refl

-- words that are joined are read back as they were
pub line_in : (words : List (List ℕ)) (command : Command) → list_all is_word words ≡ true → command_with words ≡ Some command → command_in (joined words) ≡ Some command
unfolding words_in
line_in [] command valid read = cc
line_in (word ∷ words) command valid read = rw (split_words word words valid, valid, read) refl

from_ok : (P : Command → Type 0) (o : Option Command) (e : UnknownLine) (command : Command) → IfSome o P → ok_or o e ≡ Ok command → P command
from_ok P None e command h is = cc
from_ok P (Some c) e command h is = let same : c ≡ command = cc in subst P same h

-- a command that some line has is read back from its line
pub command_back : (command : Command) (line : List ℕ) → command_of line ≡ Ok command → command_of (command_text_of command) ≡ Ok command
unfolding command_of
command_back command line is =
    let back = from_ok IsBack (command_in line) _ command (of_line IsBack edits_back commands_back line) is in
    rw (line_in (command_words command) command back.valid back.read) refl
