-- Sets of carriers as numbers: bit k stands for carrier k.
use Rattle.std.specs.Prelude.{ℕ, Bool, List, [], ◌∷◌, ◌+◌, ◌*◌, ◌==◌, if◌then◌else◌}
use Rattle.std.specs.Int.{bit_at}
use Rattle.std.specs.List.{list_all}

-- how many bits a mask has
abbrev pub mask_width : ℕ
mask_width = 128

-- whether a mask has the bit of a carrier
unfoldable pub has_bit : ℕ → ℕ → Bool
has_bit mask carrier = bit_at mask carrier == 1

-- whether a mask has the bits of all of a set
abbrev pub has_bits : List ℕ → ℕ → Bool
has_bits set mask = list_all (has_bit mask) set

-- the number with these bits, the lowest first
abbrev pub with_bits : List Bool → ℕ
with_bits [] = 0
with_bits (b ∷ bs) = (if b then 1 else 0) + 2 * with_bits bs
