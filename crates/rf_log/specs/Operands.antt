-- How the words of a line are read one after another.
use Rattle.std.specs.Prelude.{ℕ, List, [], ◌∷◌, Bool, true, false, Option, Some, None, option_map, option_and_then, codes, ◌-◌, ◌&&◌, nat_le, if◌then◌else◌}
use Rattle.std.specs.Str.{bytes_eq}
use Rattle.rf_base.specs.Decimal.{number_of}
use Rattle.rf_base.specs.Name.{name_of}
use Rattle.rf_terms.specs.declared.kind.Kind.{Kind}
use Rattle.rf_terms.specs.Kinds.{roles_of}
use Rattle.rf_log.specs.declared.line.Cut.{Cut}
use Rattle.rf_log.specs.declared.line.Cut.TheVariants.{Fix, Split}

infixl 10 ◌>>=◌
abbrev pub ◌>>=◌ : {A B : Type 0} → Option A → (A → Option B) → Option B
read >>= next = option_and_then next read

-- what the first word is read as, and the words after it
abbrev pub taken : {A : Type 0} → (List ℕ → Option A) → List (List ℕ) → Option (A × List (List ℕ))
taken reads [] = None
taken reads (word ∷ words) = option_map (λ x. (x, words)) (reads word)

-- what the word is read as, where it is the only one
abbrev pub only : {A : Type 0} → (List ℕ → Option A) → List (List ℕ) → Option A
only reads [] = None
only reads (word ∷ []) = reads word
only reads (word ∷ next ∷ words) = None

-- the side of a condition
abbrev pub side_of : List ℕ → Option Bool
side_of word = if bytes_eq word (codes "in") then Some true else if bytes_eq word (codes "out") then Some false else None

abbrev pub cut_of : List ℕ → Option Cut
cut_of word = if bytes_eq word (codes "fix") then Some Fix else if bytes_eq word (codes "split") then Some Split else None

-- the target of a rule: its place among the roles, which are counted from 1
abbrev pub target_in : Kind → ℕ → Option ℕ
target_in kind role = if nat_le 1 role && nat_le role (roles_of kind) then Some (role - 1) else None

-- LO HI
abbrev pub range_in : List (List ℕ) → Option ((ℕ × ℕ) × List (List ℕ))
range_in words = do
  lo ← taken number_of words
  hi ← taken number_of lo.1
  Some ((lo.0, hi.0), hi.1)

-- NAME LO HI
abbrev pub place_in : List (List ℕ) → Option ((List ℕ × ℕ × ℕ) × List (List ℕ))
place_in words = do
  name ← taken name_of words
  range ← range_in name.1
  Some ((name.0, range.0.0, range.0.1), range.1)
