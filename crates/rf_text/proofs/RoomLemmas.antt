-- How long the line of a command is at most.
use Rattle.std.proofs.Common.{◌≤◌, ◌+◌, ◌*◌, ℕ, zero, suc, List, [], ◌∷◌, Bool, true, false, length, length-append, map, take, arith, inl, inr, Some, None, ◌^◌, ◌/◌, ◌%◌, ◌==◌, ℤ, pos}
use Rattle.std.proofs.Common.{negsuc, nat_abs, decimal, slice_index, if◌then◌else◌, length-take}
use Rattle.std.proofs.lemmas.Bool.{cases_Bool}
use Rattle.std.proofs.lemmas.Bool.Decides.{nat_tests}
use Rattle.std.proofs.lemmas.Fmt.{length-decimal-le}
use Rattle.rf_base.specs.Lines.{spaced}
use Rattle.rf_base.specs.declared.decimal.Decimal.{Decimal}
use Rattle.rf_exclusions.specs.declared.scan_set.Sep.TheVariants.{Comma, Semicolon, Tab}
use Rattle.rf_text.specs.Decimals.{billionths_text, decimal_text, fraction_text, places, sign_text}
use Rattle.rf_text.specs.Operands.{fewest_numbers}
use Rattle.rf_text.specs.Shapes.{Operand, a_decimal, a_file, a_name, a_number, a_separator, Value, Shape, nothing, last, perhaps, numbers, ◌and◌, Values}
use Rattle.rf_text.proofs.ShapesBack.{AreNumbers, AreShort, AreValues, IsShort, IsSmall, IsValue, all_take, word_of, words_of}

-- ---- words

number_room : (n : ℕ) → IsShort n → length (decimal n) ≤ 9
number_room n h = length-decimal-le 9 n (omega arith) h (omega arith)

places_room : (n f : ℕ) → length (places n f) ≤ n
unfolding places
places_room zero f = omega arith
places_room (suc n) f =
    let few = places_room n (f % 10 ^ n) in
    elim (cases_Bool (f == 0)) [ inl none ↦ rw none (omega arith) | inr some ↦ rw some (omega arith) ]

fraction_room : (f : ℕ) → length (fraction_text f) ≤ 10
fraction_room f =
    let few = places_room 9 f in
    elim (cases_Bool (f == 0)) [ inl none ↦ rw none (omega arith) | inr some ↦ rw some (omega arith) ]

sign_room : (z : ℤ) → length (sign_text z) ≤ 1
sign_room (pos n) = omega arith
sign_room (negsuc n) = omega arith

decimal_room : (n : Decimal) → IsSmall n → length (decimal_text n.0) ≤ 20
unfolding decimal_text
decimal_room n h =
    let m = nat_abs n.0 in
    let small : IsShort (m / 1_000_000_000) = omega arith in
    let fraction = fraction_room (m % 1_000_000_000) in
    let whole = number_room (m / 1_000_000_000) small in
    let long = length-append (decimal (m / 1_000_000_000)) (fraction_text (m % 1_000_000_000)) in
    omega (arith, length-append (sign_text n.0) (billionths_text m), sign_room n.0)

-- no word is longer than the name of a file
word_room : (operand : Operand) (x : Value operand) → IsValue operand x → length (word_of operand x) ≤ 255
word_room a_name x h = grind (arith, nat_tests)
word_room a_file x h = grind (arith, nat_tests)
word_room a_number x h = let few = number_room x h in omega arith
word_room a_decimal x h = let few = decimal_room x h in omega arith
word_room a_separator Comma h = omega arith
word_room a_separator Semicolon h = omega arith
word_room a_separator Tab h = omega arith

-- ---- the numbers of a profile

spaced_numbers : (ns : List ℕ) → AreShort ns → length (spaced (map decimal ns)) ≤ 10 * length ns
spaced_numbers [] h = omega arith
spaced_numbers (n ∷ ns) h =
    let first = number_room n h.0 in
    let more = spaced_numbers ns h.1 in
    omega (arith, length-append (decimal n) (spaced (map decimal ns)))

cut_room : (cut : Bool) (ns : List ℕ) → AreNumbers ns → length (spaced (map decimal (if cut then take fewest_numbers ns else ns))) ≤ 100
cut_room true ns h = omega (arith, spaced_numbers (take fewest_numbers ns) (all_take IsShort fewest_numbers ns h.1), length-take fewest_numbers ns)
cut_room false ns h = omega (arith, spaced_numbers ns h.1, h.0)

-- ---- all operands

-- how many bytes the operands of a line take at most, each after a space
abbrev pub room : Shape → ℕ
room nothing = 0
room (last operand) = 256
room (perhaps operand) = 256
room numbers = 100
room (operand and more) = 256 + room more

pub values_room : (shape : Shape) (w : Values shape) → AreValues shape w → length (spaced (words_of shape w)) ≤ room shape
values_room nothing w h = omega arith
values_room (last operand) w h = omega (arith, word_room operand w h, length-append (word_of operand w) [])
values_room (perhaps operand) None h = omega arith
values_room (perhaps operand) (Some x) h = omega (arith, word_room operand x h, length-append (word_of operand x) [])
values_room numbers w h = cut_room (slice_index w fewest_numbers == 0) w h
values_room (operand and more) w h =
    omega (arith, word_room operand w.0 h.0, values_room more w.1 h.1, length-append (word_of operand w.0) (spaced (words_of more w.1)))
