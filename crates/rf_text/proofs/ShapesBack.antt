-- What the operands of a line write is read back, whatever their shape.
use Rattle.std.proofs.Common.{◌≡◌, ◌<◌, ◌+◌, ◌++◌, ◌∙◌, ℕ, zero, suc, List, [], ◌∷◌, true, false, length, length-append, map, get_or, take, append-nil, arith, refl, ap, subst, sym, Some}
use Rattle.std.proofs.Common.{None, inl, inr, ◌^◌, ◌==◌, decimal, nat_abs, option_and_then, option_map, slice_index, unwrap_or, IfSome, length-take, take_all}
use Rattle.std.specs.declared.option.Option.{Option}
use Rattle.std.proofs.lemmas.Bool.{cases_eq}
use Rattle.std.proofs.lemmas.Bool.Decides.{nat_tests}
use Rattle.std.proofs.Math.Seq.{get_or-append_seam, take-append_seam}
use Rattle.std.proofs.lemmas.List.{map-append, take_more}
use Rattle.std.proofs.lemmas.Option.{IfSome_then}
use Rattle.std.proofs.lemmas.List.Folds.{list_all-append}
use Rattle.std.specs.List.{AllByRecursion, list_all}
use Rattle.rf_base.specs.declared.decimal.Decimal.{Decimal}
use Rattle.rf_exclusions.specs.declared.scan_set.Sep.{Sep}
use Rattle.rf_exclusions.specs.declared.scan_set.Sep.TheVariants.{Comma, Semicolon, Tab}
use Rattle.rf_base.specs.Decimal.{number_of}
use Rattle.rf_base.specs.FileName.{is_file_name}
use Rattle.rf_base.specs.Name.{is_name}
use Rattle.rf_text.specs.Decimals.{decimal_text}
use Rattle.rf_text.specs.EditTexts.{if_there, number_words}
use Rattle.rf_text.specs.Operands.{at_most_one, fewest_numbers, first, one, profile_numbers, several, ◌>>=◌}
use Rattle.rf_text.specs.Separators.{sep_of, sep_text}
use Rattle.rf_text.specs.Shapes.{Operand, a_decimal, a_file, a_name, a_number, a_separator, Value, value, Shape, nothing, last, perhaps, numbers, ◌and◌, Values, values}
use Rattle.rf_text.specs.Words.{is_word}
use Rattle.rf_text.proofs.DecimalsBack.{decimal_back, decimal_read}
use Rattle.rf_text.proofs.OperandsBack.{Says, file_back, file_read, name_back, name_read, number_back, number_read}
use Rattle.rf_base.proofs.OptionLaws.{if_found, if_map}

abbrev pub IsNamed : List ℕ → Type 0
IsNamed name = is_name name ≡ true

abbrev pub IsFiled : List ℕ → Type 0
IsFiled name = is_file_name name ≡ true

abbrev pub IsSmall : Decimal → Type 0
IsSmall n = nat_abs n.0 < 10 ^ 18

abbrev pub IsShort : ℕ → Type 0
IsShort n = n < 10 ^ 9

abbrev pub AreShort : List ℕ → Type 0
AreShort = AllByRecursion IsShort

-- ---- all of a list

pub all_both : {X : Type 0} (P : X → Type 0) (xs ys : List X) → AllByRecursion P xs → AllByRecursion P ys → AllByRecursion P (xs ++ ys)
all_both P [] ys h k = k
all_both P (x ∷ xs) ys h k = (h.0, all_both P xs ys h.1 k)

pub all_at : {X : Type 0} (P : X → Type 0) (xs : List X) (i : ℕ) (d : X) → AllByRecursion P xs → i < length xs → P (get_or xs i d)
all_at P [] i d h inside = absurd (omega arith)
all_at P (x ∷ xs) zero d h inside = h.0
all_at P (x ∷ xs) (suc i) d h inside = all_at P xs i d h.1 (omega arith)

pub all_take : {X : Type 0} (P : X → Type 0) (n : ℕ) (xs : List X) → AllByRecursion P xs → AllByRecursion P (take n xs)
all_take P zero xs h = tt
all_take P (suc n) [] h = tt
all_take P (suc n) (x ∷ xs) h = (h.0, all_take P n xs h.1)

-- ---- readers

if_first : {A B : Type 0} (reads : List ℕ → Option A) (others : List (List ℕ) → Option B) (P : A → Type 0) (Q : B → Type 0)
    → ((word : List ℕ) → IfSome (reads word) P) → ((words : List (List ℕ)) → IfSome (others words) Q)
    → (words : List (List ℕ)) → IfSome (first reads others words) (λ w. P w.0 × Q w.1)
if_first reads others P Q p q [] = tt
if_first reads others P Q p q (word ∷ words) =
    if_found (λ x. others words >>= (λ y. Some (x, y))) P (λ w. P w.0 × Q w.1) (reads word) (p word)
    (λ x h. if_found (λ y. Some (x, y)) Q (λ w. P w.0 × Q w.1) (others words) (q words) (λ y k. (h, k)))

if_one : {A : Type 0} (reads : List ℕ → Option A) (P : A → Type 0)
    → ((word : List ℕ) → IfSome (reads word) P) → (words : List (List ℕ)) → IfSome (one reads words) P
if_one reads P p [] = tt
if_one reads P p (word ∷ []) = p word
if_one reads P p (word ∷ next ∷ words) = tt

if_at_most_one : {A : Type 0} (reads : List ℕ → Option A) (P : A → Type 0)
    → ((word : List ℕ) → IfSome (reads word) P) → (words : List (List ℕ)) → IfSome (at_most_one reads words) (λ o. IfSome o P)
if_at_most_one reads P p [] = tt
if_at_most_one reads P p (word ∷ words) = if_map (λ x. Some x) (λ o. IfSome o P) (one reads (word ∷ words)) (if_one reads P p (word ∷ words))

-- ---- the numbers of a profile

-- so many numbers, and others after them
if_several : {B : Type 0} (others : List (List ℕ) → Option B) (Q : B → Type 0) → ((words : List (List ℕ)) → IfSome (others words) Q)
    → (count : ℕ) (words : List (List ℕ)) → IfSome (several count number_of others words) (λ w. ((length w.0 ≡ count) × AreShort w.0) × Q w.1)
unfolding several
if_several others Q q zero words =
    if_map (λ more. ([], more)) (λ w. ((length w.0 ≡ zero) × AreShort w.0) × Q w.1) (others words) (IfSome_then (others words) (q words) (λ _ h. ((refl, tt), h)))
if_several others Q q (suc count) words =
    if_map (λ w. (w.0 ∷ w.1.0, w.1.1)) (λ w. ((length w.0 ≡ suc count) × AreShort w.0) × Q w.1) (first number_of (several count number_of others) words)
    (IfSome_then (first number_of (several count number_of others) words)
    (if_first number_of (several count number_of others) IsShort (λ w. ((length w.0 ≡ count) × AreShort w.0) × Q w.1) number_read (if_several others Q q count) words)
    (λ w h. ((ap suc h.1.0.0, (h.0, h.1.0.1)), h.1.1)))

abbrev pub AreNumbers : List ℕ → Type 0
AreNumbers ns = (length ns ≡ suc fewest_numbers) × AreShort ns

or_zero : (last : Option ℕ) → IfSome last IsShort → IsShort (unwrap_or last 0)
or_zero None h = omega arith
or_zero (Some n) h = h

numbers_said : (words : List (List ℕ)) → IfSome (profile_numbers words) AreNumbers
unfolding profile_numbers
numbers_said words =
    if_map (λ w. w.0 ++ unwrap_or w.1 0 ∷ []) AreNumbers (several fewest_numbers number_of (at_most_one number_of) words)
    (IfSome_then (several fewest_numbers number_of (at_most_one number_of) words)
    (if_several (at_most_one number_of) (λ last. IfSome last IsShort) (if_at_most_one number_of IsShort number_read) fewest_numbers words)
    (λ w h. (let long = length-append w.0 (unwrap_or w.1 0 ∷ []) in omega (arith, long, h.0.0), all_both IsShort w.0 (unwrap_or w.1 0 ∷ []) h.0.1 (or_zero w.1 h.1, tt))))

one_more : {B : Type 0} (n : ℕ) (ns : List ℕ) (o : Option B)
    → option_map {T = ℕ × (List ℕ × B)} {U = List ℕ × B} (λ w. (w.0 ∷ w.1.0, w.1.1)) (option_and_then (λ more. Some (n, more)) (option_map (λ more. (ns, more)) o))
    ≡ option_map {T = B} {U = List ℕ × B} (λ more. (n ∷ ns, more)) o
one_more n ns None = refl
one_more n ns (Some more) = refl

-- numbers that are written, and others after them
several_back : {B : Type 0} (others : List (List ℕ) → Option B) (rest : List (List ℕ)) (ns : List ℕ) → AreShort ns
    → several (length ns) number_of others (map decimal ns ++ rest) ≡ option_map {T = B} {U = List ℕ × B} (λ more. (ns, more)) (others rest)
unfolding several
several_back others rest [] h = refl
several_back others rest (n ∷ ns) h =
    let first = number_back n h.0 in
    let more = several_back others rest ns h.1 in
    rw (first.read, more) (one_more n ns (others rest))

numbers_words : (ns : List ℕ) → AreShort ns → list_all is_word (map decimal ns) ≡ true
numbers_words [] h = refl
numbers_words (n ∷ ns) h = let first = number_back n h.0 in rw (first.valid, numbers_words ns h.1) refl

-- the numbers of a profile
record NumbersBack (ns : List ℕ) : Type 0 where
  read : profile_numbers (number_words ns) ≡ Some ns
  valid : list_all is_word (number_words ns) ≡ true

ended_back : (front : List ℕ) (x : ℕ) → length front ≡ fewest_numbers → AreShort front → IsShort x → NumbersBack (front ++ x ∷ [])
unfolding profile_numbers
ended_back front x long h k =
    let at : slice_index (front ++ x ∷ []) fewest_numbers ≡ x = rw (← long) (get_or-append_seam front x [] 0) in
    let taken : take fewest_numbers (front ++ x ∷ []) ≡ front = rw (← long) (take-append_seam front (x ∷ [])) in
    let valid = numbers_words front h in
    let last = number_back x k in
    elim (cases_eq x 0) [
      | inl none ↦
          let zero_is : (x == 0) ≡ true = rw none refl in
          let read : several fewest_numbers number_of (at_most_one number_of) (map decimal front) ≡ Some (front, None) =
          rw (← long) (let is = several_back (at_most_one number_of) [] front h in rw append-nil at is) in
          record { read = rw (at, zero_is, taken, read, none) refl; valid = rw (at, zero_is, taken) valid }
      | inr some ↦
          let zero_is : (x == 0) ≡ false = grind (arith, nat_tests) in
          let read : several fewest_numbers number_of (at_most_one number_of) (map decimal front ++ decimal x ∷ []) ≡ Some (front, Some x) =
          rw (← long) (let is = several_back (at_most_one number_of) (decimal x ∷ []) front h in rw last.read at is) in
          record { read = rw (at, zero_is, map-append, read) refl; valid = rw (at, zero_is, map-append, list_all-append, valid, last.valid) refl }
    ]

profile_back : (ns : List ℕ) → length ns ≡ suc fewest_numbers → AreShort ns → NumbersBack ns
profile_back ns long h =
    let whole = sym (take_more ns fewest_numbers 0 (omega (arith, long))) ∙ take_all (fewest_numbers + 1) ns (omega (arith, long)) in
    subst NumbersBack whole (ended_back (take fewest_numbers ns) (slice_index ns fewest_numbers) (omega (arith, long, length-take fewest_numbers ns))
    (all_take IsShort fewest_numbers ns h) (all_at IsShort ns fewest_numbers 0 h (omega (arith, long))))

-- ---- one operand

any : {A : Type 0} (o : Option A) → IfSome o (λ _. Unit {0})
any None = tt
any (Some x) = tt

-- the name of a separator is read back as the separator
sep_back : (sep : Sep) → Says sep_of (sep_text sep) (Some sep)
unfolding sep_of
sep_back Comma = record { read = refl; valid = refl }
sep_back Semicolon = record { read = refl; valid = refl }
sep_back Tab = record { read = refl; valid = refl }

-- what a word can write
abbrev pub IsValue : (operand : Operand) → Value operand → Type 0
IsValue a_name = IsNamed
IsValue a_file = IsFiled
IsValue a_number = IsShort
IsValue a_decimal = IsSmall
IsValue a_separator = λ _. Unit {0}

value_read : (operand : Operand) (word : List ℕ) → IfSome (value operand word) (IsValue operand)
value_read a_name = name_read
value_read a_file = file_read
value_read a_number = number_read
value_read a_decimal = decimal_read
value_read a_separator = λ word. any (sep_of word)

abbrev pub word_of : (operand : Operand) → Value operand → List ℕ
word_of a_name = λ name. name
word_of a_file = λ file. file
word_of a_number = decimal
word_of a_decimal = λ n. decimal_text n.0
word_of a_separator = sep_text

value_back : (operand : Operand) (x : Value operand) → IsValue operand x → Says (value operand) (word_of operand x) (Some x)
value_back a_name = name_back
value_back a_file = file_back
value_back a_number = number_back
value_back a_decimal = decimal_back
value_back a_separator = λ sep _. sep_back sep

-- ---- all operands

-- what the operands of a line can write
abbrev pub AreValues : (shape : Shape) → Values shape → Type 0
AreValues nothing = λ _. Unit {0}
AreValues (last operand) = IsValue operand
AreValues (perhaps operand) = λ w. IfSome w (IsValue operand)
AreValues numbers = AreNumbers
AreValues (operand and more) = λ w. IsValue operand w.0 × AreValues more w.1

pub values_read : (shape : Shape) (words : List (List ℕ)) → IfSome (values shape words) (AreValues shape)
values_read nothing [] = tt
values_read nothing (word ∷ words) = tt
values_read (last operand) words = if_one (value operand) (IsValue operand) (value_read operand) words
values_read (perhaps operand) words = if_at_most_one (value operand) (IsValue operand) (value_read operand) words
values_read numbers words = numbers_said words
values_read (operand and more) words = if_first (value operand) (values more) (IsValue operand) (AreValues more) (value_read operand) (values_read more) words

abbrev pub words_of : (shape : Shape) → Values shape → List (List ℕ)
words_of nothing = λ _. []
words_of (last operand) = λ w. word_of operand w ∷ []
words_of (perhaps operand) = if_there (word_of operand)
words_of numbers = number_words
words_of (operand and more) = λ w. word_of operand w.0 ∷ words_of more w.1

pub record AreBack (shape : Shape) (w : Values shape) : Type 0 where
  pub read : values shape (words_of shape w) ≡ Some w
  pub valid : list_all is_word (words_of shape w) ≡ true

pub values_back : (shape : Shape) (w : Values shape) → AreValues shape w → AreBack shape w
values_back nothing w h = record { read = refl; valid = refl }
values_back (last operand) w h = let x = value_back operand w h in record { read = x.read; valid = rw x.valid refl }
values_back (perhaps operand) None h = record { read = refl; valid = refl }
values_back (perhaps operand) (Some x) h = let back = value_back operand x h in record { read = rw back.read refl; valid = rw back.valid refl }
values_back numbers w h = let back = profile_back w h.0 h.1 in record { read = back.read; valid = back.valid }
values_back (operand and more) w h =
    let x = value_back operand w.0 h.0 in
    let rest = values_back more w.1 h.1 in
    record { read = rw (x.read, rest.read) refl; valid = rw (x.valid, rest.valid) refl }
