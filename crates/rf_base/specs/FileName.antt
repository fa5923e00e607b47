use Rattle.std.specs.Prelude.{ℕ, Bool, List, ◌≤◌, ◌&&◌, nat_le, length, IsTrue, Option, Some, None, if◌then◌else◌}
use Rattle.std.specs.List.{list_all}

-- a byte from `!` to `~`
abbrev pub is_visible : ℕ → Bool
is_visible b = nat_le 33 b && nat_le b 126

-- 1 to 255 of these bytes
abbrev pub is_file_name : List ℕ → Bool
is_file_name word = nat_le 1 (length word) && nat_le (length word) 255 && list_all is_visible word

-- the file name that a word is
abbrev pub file_name_of : List ℕ → Option (List ℕ)
file_name_of word = if is_file_name word then Some word else None

-- the bytes of a file name
pub record IsFileName (word : List ℕ) : Type 0 where
  pub nonempty : 1 ≤ length word
  pub short : length word ≤ 255
  pub visible : IsTrue (list_all is_visible word)
