-- What the words of the command line ask for.
use Rattle.std.specs.Prelude.{◌≡◌, ◌==◌, ◌&&◌, ◌≤◌, nat_le, not, ℕ, Bool, false, true, List, [], ◌∷◌, Option, Some, None, option_and_then, option_map, codes, if◌then◌else◌}
use Rattle.std.specs.Str.{bytes_eq}
use Rattle.rf_base.specs.Decimal.{number_of}
use Rattle.clap.specs.Words.{App, Kinds, Row, Rule, Text, fault_of, first_of, new_app, new_rule, subcommand_of}
use Rattle.clap.specs.Simple.{with_rule, with_subcommand}
use Rattle.rf_words.specs.declared.asked.Asked.{Asked}
use Rattle.rf_words.specs.declared.asked.Asked.TheVariants.{Session, Check, Audit, Demo}
use Rattle.rf_words.specs.declared.asked.TheConstants.{MAX_DEMO_LINES}

-- the program, which has no flags of its own
abbrev pub bare : App
bare = record (new_app (codes "rfcoord")) {
  top = record (new_app (codes "rfcoord")).top { no_binary_name = true; disable_help_flag = true; disable_help_subcommand = true };
}

-- an operand that must be there
abbrev pub operand : Text → Rule
operand id = record (new_rule id) { required = true }

-- a subcommand of two operands
abbrev pub two_operands : Text → Text → Text → App
two_operands name first second = with_rule (with_rule (new_app name) (operand first)) (operand second)

-- the command line of the program
unfoldable pub app : App
app =
    with_subcommand
    (with_subcommand
    (with_subcommand (with_subcommand bare (new_app (codes "session")).top) (two_operands (codes "check") (codes "show") (codes "log")).top)
    (two_operands (codes "audit") (codes "show") (codes "log")).top)
    (two_operands (codes "demo") (codes "seed") (codes "count")).top

-- a word that can name a file: it isn't empty and doesn't begin with `-`
abbrev pub is_file_word : Text → Bool
is_file_word [] = false
is_file_word (byte ∷ bytes) = not (byte == 45)

-- the words of two files
abbrev pub files_of : Option Text → Option Text → Option (Text × Text)
files_of None log = None
files_of (Some show) None = None
files_of (Some show) (Some log) = if is_file_word show && is_file_word log then Some (show, log) else None

-- a demonstration of so many lines
abbrev pub demo_by : Option ℕ → Option ℕ → Option Asked
demo_by None count = None
demo_by (Some seed) None = None
demo_by (Some seed) (Some count) = if nat_le count MAX_DEMO_LINES then Some (Demo seed count) else None

-- a demonstration of the numbers of two words
abbrev pub demo_of : Option Text → Option Text → Option Asked
demo_of seed count = demo_by (option_and_then number_of seed) (option_and_then number_of count)

-- what a subcommand of this name asks for
abbrev pub asked_as : Text → List Row → Option Asked
asked_as name rows =
    if bytes_eq name (codes "session") then Some Session
    else if bytes_eq name (codes "check") then option_map (λ f. Check f.0 f.1) (files_of (first_of (codes "show") rows) (first_of (codes "log") rows))
    else if bytes_eq name (codes "audit") then option_map (λ f. Audit f.0 f.1) (files_of (first_of (codes "show") rows) (first_of (codes "log") rows))
    else if bytes_eq name (codes "demo") then demo_of (first_of (codes "seed") rows) (first_of (codes "count") rows)
    else None

abbrev pub read_from : Option (Text × List Row) → Option Asked
read_from entered = option_and_then (λ p. asked_as p.0 p.1) entered

-- what is asked where `clap` has no fault to find
abbrev pub if_taken : Kinds → Option Asked → Option Asked
if_taken [] asked = asked
if_taken (fault ∷ faults) asked = None

-- What words ask for: what `clap` reads from them, where it takes them.
unfoldable pub asked_by : List Text → Option Asked
asked_by words = if_taken (fault_of app words) (read_from (subcommand_of app words))

-- these are the plain words for what is asked
unfoldable pub IsPlain : List Text → Asked → Type 0
IsPlain words Session = words ≡ codes "session" ∷ []
IsPlain words (Check show log) = (words ≡ codes "check" ∷ show ∷ log ∷ []) × (is_file_word show ≡ true) × (is_file_word log ≡ true)
IsPlain words (Audit show log) = (words ≡ codes "audit" ∷ show ∷ log ∷ []) × (is_file_word show ≡ true) × (is_file_word log ≡ true)
IsPlain words (Demo seed count) =
    (first : Text) × (second : Text) × (words ≡ codes "demo" ∷ first ∷ second ∷ [])
    × (number_of first ≡ Some seed) × (number_of second ≡ Some count) × (count ≤ MAX_DEMO_LINES)

-- what is asked can be asked by plain words
abbrev pub HasPlain : Asked → Type 0
HasPlain asked = (words : List Text) × IsPlain words asked
