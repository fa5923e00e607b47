use Rattle.std.specs.Prelude.{ℕ, Bool, List, ◌≤◌, ◌&&◌, not, nat_le, nat_eq, length, IsTrue, Option, Some, None, if◌then◌else◌}
use Rattle.std.specs.List.{list_all}
use Rattle.std.specs.Cmp.Lexicographic.{pointwise}

-- a byte from `!` to `~`, but for `;` and `=`
abbrev pub is_name_byte : ℕ → Bool
is_name_byte b = nat_le 33 b && nat_le b 126 && not (nat_eq b 59) && not (nat_eq b 61)

-- 1 to 32 of these bytes
abbrev pub is_name : List ℕ → Bool
is_name word = nat_le 1 (length word) && nat_le (length word) 32 && list_all is_name_byte word

-- the name that a word is
abbrev pub name_of : List ℕ → Option (List ℕ)
name_of word = if is_name word then Some word else None

-- the bytes of a name
pub record IsName (word : List ℕ) : Type 0 where
  pub nonempty : 1 ≤ length word
  pub short : length word ≤ 32
  pub allowed : IsTrue (list_all is_name_byte word)

-- names are the same where their bytes are
abbrev pub same_name : List ℕ → List ℕ → Bool
same_name = pointwise nat_eq
