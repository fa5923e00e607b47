-- Plain words ask for what they say, and nothing else can be asked.
use Rattle.std.proofs.Common.{◌≡◌, ◌≤◌, ◌∙◌, ℕ, length, List, [], ◌∷◌, true, false, Option, Some, None, refl, sym, subst, option_map, inl, inr, codes, arith}
use Rattle.std.specs.Prelude.{◌==◌, ◌&&◌, nat_le, not}
use Rattle.std.proofs.lemmas.Bool.{and_parts, cases_Bool, leb-true, le-leb}
use Rattle.std.proofs.lemmas.Bool.Decides.{nat_tests}
use Rattle.std.proofs.lemmas.Option.{same_Some}
use Rattle.std.specs.Str.{bytes_eq}
use Rattle.clap.specs.Words.{App, HasKind, Kinds, Row, Text, fault_of, first_of, is_simple, is_simple_and_free, kind_of, subcommand_of}
use Rattle.clap.specs.declared.error.Error.{Error}
use Rattle.clap.specs.declared.error.kind.ErrorKind.TheVariants.{OutOfMemory}
use Rattle.clap.proofs.OnLiterals.{clap_on_literals}
use Rattle.rf_words.specs.declared.asked.Asked.{Asked}
use Rattle.rf_words.specs.declared.asked.Asked.TheVariants.{Session, Check, Audit, Demo}
use Rattle.rf_words.specs.declared.asked.TheConstants.{MAX_DEMO_LINES}
use Rattle.rf_base.specs.Decimal.{is_digits, is_whole, number_of}
use Rattle.rf_words.specs.Words.{app, asked_as, asked_by, demo_by, demo_of, files_of, if_taken, is_file_word, read_from, HasPlain, IsPlain}
use mathlib.Core.Bool.{and-false}

pub app_simple : is_simple app ≡ true
unfolding clap_on_literals app
app_simple = refl

pub app_free : is_simple_and_free app ≡ true
unfolding clap_on_literals app
app_free = refl

session_asked : asked_by (codes "session" ∷ []) ≡ Some Session
unfolding clap_on_literals app asked_by
session_asked = refl

-- words that `clap` takes ask for what it reads from them
taken_asked : (words : List Text) → fault_of app words ≡ [] → asked_by words ≡ read_from (subcommand_of app words)
unfolding asked_by
taken_asked words none = rw none refl

check_taken : (a b : ℕ) (show log : Text) → (a == 45) ≡ false → (b == 45) ≡ false → fault_of app (codes "check" ∷ (a ∷ show) ∷ (b ∷ log) ∷ []) ≡ []
unfolding clap_on_literals app
check_taken a b show log ha hb = simp (ha, hb)

check_read : (a b : ℕ) (show log : Text) → (a == 45) ≡ false → (b == 45) ≡ false →
    read_from (subcommand_of app (codes "check" ∷ (a ∷ show) ∷ (b ∷ log) ∷ [])) ≡ Some (Check (a ∷ show) (b ∷ log))
unfolding clap_on_literals app
check_read a b show log ha hb = simp (ha, hb)

first_byte : (a : ℕ) → not (a == 45) ≡ true → (a == 45) ≡ false
first_byte a h = grind arith

check_asked : (show log : Text) → is_file_word show ≡ true → is_file_word log ≡ true → asked_by (codes "check" ∷ show ∷ log ∷ []) ≡ Some (Check show log)
check_asked [] log hs hl = cc
check_asked (a ∷ show) [] hs hl = cc
check_asked (a ∷ show) (b ∷ log) hs hl =
    let ha = first_byte a hs in let hb = first_byte b hl in
    taken_asked _ (check_taken a b show log ha hb) ∙ check_read a b show log ha hb

audit_taken : (a b : ℕ) (show log : Text) → (a == 45) ≡ false → (b == 45) ≡ false → fault_of app (codes "audit" ∷ (a ∷ show) ∷ (b ∷ log) ∷ []) ≡ []
unfolding clap_on_literals app
audit_taken a b show log ha hb = simp (ha, hb)

audit_read : (a b : ℕ) (show log : Text) → (a == 45) ≡ false → (b == 45) ≡ false →
    read_from (subcommand_of app (codes "audit" ∷ (a ∷ show) ∷ (b ∷ log) ∷ [])) ≡ Some (Audit (a ∷ show) (b ∷ log))
unfolding clap_on_literals app
audit_read a b show log ha hb = simp (ha, hb)

audit_asked : (show log : Text) → is_file_word show ≡ true → is_file_word log ≡ true → asked_by (codes "audit" ∷ show ∷ log ∷ []) ≡ Some (Audit show log)
audit_asked [] log hs hl = cc
audit_asked (a ∷ show) [] hs hl = cc
audit_asked (a ∷ show) (b ∷ log) hs hl =
    let ha = first_byte a hs in let hb = first_byte b hl in
    taken_asked _ (audit_taken a b show log ha hb) ∙ audit_read a b show log ha hb

demo_taken : (a b : ℕ) (seed count : Text) → (a == 45) ≡ false → (b == 45) ≡ false → fault_of app (codes "demo" ∷ (a ∷ seed) ∷ (b ∷ count) ∷ []) ≡ []
unfolding clap_on_literals app
demo_taken a b seed count ha hb = simp (ha, hb)

demo_read : (a b : ℕ) (seed count : Text) → (a == 45) ≡ false → (b == 45) ≡ false →
    read_from (subcommand_of app (codes "demo" ∷ (a ∷ seed) ∷ (b ∷ count) ∷ [])) ≡ demo_by (number_of (a ∷ seed)) (number_of (b ∷ count))
unfolding clap_on_literals app
demo_read a b seed count ha hb = simp (ha, hb)

no_digits : number_of [] ≡ None
unfolding number_of is_whole is_digits
no_digits = refl

minus_no_number : (word : Text) → number_of (45 ∷ word) ≡ None
unfolding number_of is_whole is_digits
minus_no_number word = rw (and-false (not (length (45 ∷ word) == 0))) refl

-- the first byte of a number is no `-`
number_byte : (a n : ℕ) (word : Text) → number_of (a ∷ word) ≡ Some n → (a == 45) ≡ false
number_byte a n word is =
    elim (cases_Bool (a == 45)) [
      | inl e ↦ let minus : a ≡ 45 = grind (arith, nat_tests) in absurd (let bad : ◌≡◌ {A = Option ℕ} None (Some n) = sym (minus_no_number word) ∙ (rw minus at is) in cc)
      | inr e ↦ e
    ]

demo_asked : (first second : Text) (seed count : ℕ) → number_of first ≡ Some seed → number_of second ≡ Some count → count ≤ MAX_DEMO_LINES →
    asked_by (codes "demo" ∷ first ∷ second ∷ []) ≡ Some (Demo seed count)
demo_asked [] second seed count hs hc few = let bad : ◌≡◌ {A = Option ℕ} None (Some seed) = sym no_digits ∙ hs in cc
demo_asked (a ∷ first) [] seed count hs hc few = let bad : ◌≡◌ {A = Option ℕ} None (Some count) = sym no_digits ∙ hc in cc
demo_asked (a ∷ first) (b ∷ second) seed count hs hc few =
    let ha = number_byte a seed first hs in let hb = number_byte b count second hc in
    let made : demo_by (number_of (a ∷ first)) (number_of (b ∷ second)) ≡ Some (Demo seed count) = rw (hs, hc, le-leb count MAX_DEMO_LINES few) refl in
    taken_asked _ (demo_taken a b first second ha hb) ∙ demo_read a b first second ha hb ∙ made

-- plain words ask for what they say
pub plain_asked : (words : List Text) (asked : Asked) → IsPlain words asked → asked_by words ≡ Some asked
unfolding IsPlain
plain_asked words Session is = rw is session_asked
plain_asked words (Check show log) (is, plain_show, plain_log) = rw is (check_asked show log plain_show plain_log)
plain_asked words (Audit show log) (is, plain_show, plain_log) = rw is (audit_asked show log plain_show plain_log)
plain_asked words (Demo seed count) (first, second, is, hs, hc, few) = rw is (demo_asked first second seed count hs hc few)

-- what is asked of two files has plain words, where that is so of each two words of files
files_plain : (asks : Text → Text → Asked) → ((show log : Text) → is_file_word show ≡ true → is_file_word log ≡ true → HasPlain (asks show log)) →
    (show log : Option Text) (asked : Asked) → option_map (λ f. asks f.0 f.1) (files_of show log) ≡ Some asked → HasPlain asked
files_plain asks plain None log asked is = cc
files_plain asks plain (Some show) None asked is = cc
files_plain asks plain (Some show) (Some log) asked is =
    elim (cases_Bool (is_file_word show && is_file_word log)) [
      | inl e ↦
          let it : asks show log ≡ asked = same_Some _ _ (rw e at is) in
          let (plain_show, plain_log) = and_parts (is_file_word show) (is_file_word log) e in
          rw (← it) (plain show log plain_show plain_log)
      | inr e ↦ let bad : ◌≡◌ {A = Option Asked} None (Some asked) = rw e at is in cc
    ]

check_plain : (show log : Text) → is_file_word show ≡ true → is_file_word log ≡ true → HasPlain (Check show log)
unfolding IsPlain
check_plain show log hs hl = (codes "check" ∷ show ∷ log ∷ [], (refl, hs, hl))

audit_plain : (show log : Text) → is_file_word show ≡ true → is_file_word log ≡ true → HasPlain (Audit show log)
unfolding IsPlain
audit_plain show log hs hl = (codes "audit" ∷ show ∷ log ∷ [], (refl, hs, hl))

demo_found : (first second : Text) (m n : Option ℕ) (asked : Asked) → number_of first ≡ m → number_of second ≡ n → demo_by m n ≡ Some asked → HasPlain asked
unfolding IsPlain
demo_found first second None n asked hs hc is = cc
demo_found first second (Some m) None asked hs hc is = cc
demo_found first second (Some m) (Some n) asked hs hc is =
    elim (cases_Bool (nat_le n MAX_DEMO_LINES)) [
      | inl e ↦
          let it : Demo m n ≡ asked = same_Some _ _ (rw e at is) in
          rw (← it) (codes "demo" ∷ first ∷ second ∷ [], (first, second, refl, hs, hc, leb-true n MAX_DEMO_LINES e))
      | inr e ↦ let bad : ◌≡◌ {A = Option Asked} None (Some asked) = rw e at is in cc
    ]

none_second : (m : Option ℕ) (asked : Asked) → demo_by m None ≡ Some asked → HasPlain asked
none_second None asked is = cc
none_second (Some m) asked is = cc

demo_plain : (first second : Option Text) (asked : Asked) → demo_of first second ≡ Some asked → HasPlain asked
demo_plain None second asked is = cc
demo_plain (Some first) None asked is = none_second (number_of first) asked is
demo_plain (Some first) (Some second) asked is = demo_found first second (number_of first) (number_of second) asked refl refl is

as_plain : (name : Text) (rows : List Row) (asked : Asked) → asked_as name rows ≡ Some asked → HasPlain asked
unfolding IsPlain
as_plain name rows asked is =
    elim (cases_Bool (bytes_eq name (codes "session"))) [
      | inl e ↦ let it : Session ≡ asked = same_Some _ _ (rw e at is) in rw (← it) (codes "session" ∷ [], refl)
      | inr e ↦ elim (cases_Bool (bytes_eq name (codes "check"))) [
        | inl e2 ↦ files_plain Check check_plain (first_of (codes "show") rows) (first_of (codes "log") rows) asked (rw (e, e2) at is)
        | inr e2 ↦ elim (cases_Bool (bytes_eq name (codes "audit"))) [
          | inl e3 ↦ files_plain Audit audit_plain (first_of (codes "show") rows) (first_of (codes "log") rows) asked (rw (e, e2, e3) at is)
          | inr e3 ↦ elim (cases_Bool (bytes_eq name (codes "demo"))) [
            | inl e4 ↦ demo_plain (first_of (codes "seed") rows) (first_of (codes "count") rows) asked (rw (e, e2, e3, e4) at is)
            | inr e4 ↦ let bad : ◌≡◌ {A = Option Asked} None (Some asked) = rw (e, e2, e3, e4) at is in cc
          ]
        ]
      ]
    ]

read_plain : (entered : Option (Text × List Row)) (asked : Asked) → read_from entered ≡ Some asked → HasPlain asked
read_plain None asked is = cc
read_plain (Some entered) asked is = as_plain entered.0 entered.1 asked is

taken_plain : (faults : Kinds) (read : Option Asked) (asked : Asked) → ((it : Asked) → read ≡ Some it → HasPlain it) →
    if_taken faults read ≡ Some asked → HasPlain asked
taken_plain [] read asked plain is = plain asked is
taken_plain (fault ∷ faults) read asked plain is = cc

-- what words ask for can be asked by plain words
pub asked_plain : (words : List Text) (asked : Asked) → asked_by words ≡ Some asked → HasPlain asked
unfolding asked_by
asked_plain words asked is =
    taken_plain (fault_of app words) (read_from (subcommand_of app words)) asked (λ it. read_plain (subcommand_of app words) it) is

refused : (faults : Kinds) (read : Option Asked) → (faults ≡ [] → ⊥) → if_taken faults read ≡ None
refused [] read some = absurd (some refl)
refused (fault ∷ faults) read some = refl

refused_asked : (words : List Text) → (fault_of app words ≡ [] → ⊥) → asked_by words ≡ None
unfolding asked_by
refused_asked words some = refused (fault_of app words) (read_from (subcommand_of app words)) some

named : (faults : Kinds) (e : Error) → HasKind faults e → (kind_of e ≡ OutOfMemory → ⊥) → faults ≡ [] → ⊥
named [] e (inl memory) other none = other memory
named [] e (inr among) other none = among
named (fault ∷ faults) e has other none = cc

-- words that `clap` takes ask for what it reads from them
pub taken : (words : List Text) (a : App) (entered : Option (Text × List Row)) → a ≡ app → fault_of a words ≡ [] →
    entered ≡ subcommand_of a words → asked_by words ≡ read_from entered
taken words a entered is none read =
    let of_app : fault_of app words ≡ [] = subst (λ (x : App). fault_of x words ≡ []) is none in
    let read_app : entered ≡ subcommand_of app words = subst (λ (x : App). entered ≡ subcommand_of x words) is read in
    rw read_app (taken_asked words of_app)

-- words that `clap` refuses ask for nothing
pub not_taken : (words : List Text) (a : App) (e : Error) → a ≡ app → HasKind (fault_of a words) e → (kind_of e ≡ OutOfMemory → ⊥) →
    asked_by words ≡ None
not_taken words a e is has other =
    let of_app : HasKind (fault_of app words) e = subst (λ (x : App). HasKind (fault_of x words) e) is has in
    refused_asked words (named (fault_of app words) e of_app other)
