-- The operands of a line as data, and what a line makes of them.
use Rattle.std.specs.Prelude.{ℕ, List, Option, find, option_map}
use Rattle.std.specs.Str.{bytes_eq}
use Rattle.rf_base.specs.declared.decimal.Decimal.{Decimal}
use Rattle.rf_base.specs.Decimal.{number_of}
use Rattle.rf_base.specs.FileName.{file_name_of}
use Rattle.rf_base.specs.Name.{name_of}
use Rattle.rf_exclusions.specs.declared.scan_set.Sep.{Sep}
use Rattle.rf_text.specs.Decimals.{decimal_in}
use Rattle.rf_text.specs.Operands.{at_most_one, first, none, one, profile_numbers}
use Rattle.rf_text.specs.Separators.{sep_of}

-- what one word writes
pub data Operand : Type 0 where
  a_name : Operand
  a_file : Operand
  a_number : Operand
  a_decimal : Operand
  a_separator : Operand

-- the values of a word
abbrev pub Value : Operand → Type 0
Value a_name = List ℕ
Value a_file = List ℕ
Value a_number = ℕ
Value a_decimal = Decimal
Value a_separator = Sep

-- what a word is read as
abbrev pub value : (operand : Operand) → List ℕ → Option (Value operand)
value a_name = name_of
value a_file = file_name_of
value a_number = number_of
value a_decimal = decimal_in
value a_separator = sep_of

-- what all operands are: none, a last one, at most one, the numbers of a profile, or an operand and what is after it
infixr 75 ◌and◌
pub data Shape : Type 0 where
  nothing : Shape
  last : Operand → Shape
  perhaps : Operand → Shape
  numbers : Shape
  ◌and◌ : Operand → Shape → Shape

-- the values of all operands
abbrev pub Values : Shape → Type 0
Values nothing = Unit {0}
Values (last operand) = Value operand
Values (perhaps operand) = Option (Value operand)
Values numbers = List ℕ
Values (operand and more) = Value operand × Values more

-- what words are read as
abbrev pub values : (shape : Shape) → List (List ℕ) → Option (Values shape)
values nothing = none
values (last operand) = one (value operand)
values (perhaps operand) = at_most_one (value operand)
values numbers = profile_numbers
values (operand and more) = first (value operand) (values more)

-- a function of the values, one after another
abbrev pub Takes : Shape → Type 0 → Type 0
Takes nothing Made = Made
Takes (last operand) Made = Value operand → Made
Takes (perhaps operand) Made = Option (Value operand) → Made
Takes numbers Made = List ℕ → Made
Takes (operand and more) Made = Value operand → Takes more Made

-- what such a function gives at values
abbrev pub applied : {Made : Type 0} → (shape : Shape) → Takes shape Made → Values shape → Made
applied nothing make w = make
applied (last operand) make w = make w
applied (perhaps operand) make w = make w
applied numbers make w = make w
applied (operand and more) make w = applied more (make w.0) w.1

-- a line: its first word, what its operands are, and what they make
pub record Row (Made : Type 0) : Type 0 where
  pub verb : List ℕ
  pub shape : Shape
  pub make : Takes shape Made

infix 70 ◌takes◌makes◌
abbrev pub ◌takes◌makes◌ : {Made : Type 0} → List ℕ → (shape : Shape) → Takes shape Made → Row Made
verb takes shape makes make = record { verb = verb; shape = shape; make = make }

-- what values make by a row
abbrev pub made : {Made : Type 0} → (row : Row Made) → Values row.shape → Made
made row w = applied row.shape row.make w

-- what the operands of a line make by a row
abbrev pub row_read : {Made : Type 0} → Row Made → List (List ℕ) → Option Made
row_read row operands = option_map (made row) (values row.shape operands)

-- the row of a first word
abbrev pub row_of : {Made : Type 0} → List (Row Made) → List ℕ → Option (Row Made)
row_of rows word = find (λ row. bytes_eq word row.verb) rows
