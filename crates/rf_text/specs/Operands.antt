-- How the operands of a line are read.
use Rattle.std.specs.Prelude.{ℕ, zero, suc, List, [], ◌∷◌, ◌++◌, Option, Some, None, option_map, option_and_then, unwrap_or}
use Rattle.rf_base.specs.Decimal.{number_of}
use Rattle.rf_text.specs.Words.{only}

infixl 10 ◌>>=◌
abbrev pub ◌>>=◌ : {A B : Type 0} → Option A → (A → Option B) → Option B
read >>= next = option_and_then next read

-- the first operand, and what the others are
abbrev pub first : {A B : Type 0} → (List ℕ → Option A) → (List (List ℕ) → Option B) → List (List ℕ) → Option (A × B)
first reads others [] = None
first reads others (word ∷ words) = do
  operand ← reads word
  more ← others words
  Some (operand, more)

-- no operand
abbrev pub none : List (List ℕ) → Option (Unit {0})
none [] = Some tt
none (word ∷ words) = None

abbrev pub one : {A : Type 0} → (List ℕ → Option A) → List (List ℕ) → Option A
one reads words = only words >>= reads

abbrev pub two : {A B : Type 0} → (List ℕ → Option A) → (List ℕ → Option B) → List (List ℕ) → Option (A × B)
two reads last words = first reads (one last) words

abbrev pub three : {A B C : Type 0} → (List ℕ → Option A) → (List ℕ → Option B) → (List ℕ → Option C) → List (List ℕ) → Option (A × (B × C))
three reads next last words = first reads (two next last) words

-- one operand, or none
abbrev pub at_most_one : {A : Type 0} → (List ℕ → Option A) → List (List ℕ) → Option (Option A)
at_most_one reads [] = Some None
at_most_one reads (word ∷ words) = option_map (λ operand. Some operand) (one reads (word ∷ words))

-- so many operands, and what the others are
unfoldable pub several : {A B : Type 0} → ℕ → (List ℕ → Option A) → (List (List ℕ) → Option B) → List (List ℕ) → Option (List A × B)
several zero reads others words = option_map (λ more. ([], more)) (others words)
several (suc count) reads others words = option_map (λ w. (w.0 ∷ w.1.0, w.1.1)) (first reads (several count reads others) words)

-- how many numbers the line of a profile has at least: all but the last
abbrev pub fewest_numbers : ℕ
fewest_numbers = 9

-- the numbers of a profile, of which the last is 0 where it is left out
unfoldable pub profile_numbers : List (List ℕ) → Option (List ℕ)
profile_numbers words = option_map (λ w. w.0 ++ unwrap_or w.1 0 ∷ []) (several fewest_numbers number_of (at_most_one number_of) words)
