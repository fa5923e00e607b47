-- The bytes of words, and the space between them.
use Rattle.std.specs.Prelude.{ℕ, Bool, ◌==◌, List, Option, position, ◌&&◌, nat_le}

abbrev pub is_space : ℕ → Bool
is_space byte = byte == 32

-- where the first space stands
abbrev pub space_of : List ℕ → Option ℕ
space_of line = position is_space line

-- a byte from `!` to `~`
abbrev pub is_word_byte : ℕ → Bool
is_word_byte byte = nat_le 33 byte && nat_le byte 126
