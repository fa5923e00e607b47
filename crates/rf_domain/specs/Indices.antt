-- Sets of indices, seen as a flag for each index below the size.
use Rattle.std.specs.Prelude.{◌≡◌, ℕ, zero, suc, ◌+◌, ◌*◌, ◌/◌, ◌%◌, ◌<◌, ◌≤◌, List, length, map, Bool, true, false, not, ◌&&◌, ◌==◌, nat_le, nat_lt, slice_index_or, if◌then◌else◌}
use Rattle.std.specs.List.{range_with_len}
use Rattle.std.specs.Int.{bit_at}
use Rattle.rf_domain.specs.declared.limits.TheConstants.{INDEX_LIMIT}

-- whether the index is in the set
abbrev pub flag : List Bool → ℕ → Bool
flag set k = slice_index_or set k false

abbrev pub between : ℕ → ℕ → ℕ → Bool
between lo hi k = nat_le lo k && nat_le k hi

abbrev pub outside : ℕ → ℕ → ℕ → Bool
outside lo hi k = not (between lo hi k)

-- one bit an index, from the lowest bit of the first word on
abbrev pub has_bit : List ℕ → ℕ → Bool
has_bit words k = bit_at (slice_index_or words (k / 64) 0) (k % 64) == 1

-- the flags of the indices below the size
unfoldable pub flags_of : ℕ → List ℕ → List Bool
flags_of size words = map (has_bit words) (range_with_len 0 size)

-- the words have room for the size, and no bit is set above it
pub record IsPadded (size : ℕ) (words : List ℕ) : Type 0 where
  pub small : size ≤ INDEX_LIMIT
  pub room : size ≤ 64 * length words
  pub few : 64 * length words < size + 64
  pub clear : (k : ℕ) → has_bit words k ≡ true → k < size

-- the lowest bit that is set, or the size where none is
pub record IsLowest (size : ℕ) (words : List ℕ) (first : ℕ) : Type 0 where
  pub within : first ≤ size
  pub here : first < size → has_bit words first ≡ true
  pub below : (j : ℕ) → j < first → has_bit words j ≡ false

-- how many numbers below n pass the test
abbrev pub count_below : (ℕ → Bool) → ℕ → ℕ
count_below p zero = 0
count_below p (suc n) = count_below p n + (if p n then 1 else 0)

-- no index from `from` on is in the set
pub record HasNoneFrom (set : List Bool) (from : ℕ) : Type 0 where
  pub none : (j : ℕ) → from ≤ j → flag set j ≡ false

-- k is the least index of the set from `from` on
pub record IsNext (set : List Bool) (from k : ℕ) : Type 0 where
  pub later : from ≤ k
  pub known : k < length set
  pub here : flag set k ≡ true
  pub least : (j : ℕ) → from ≤ j → j < k → flag set j ≡ false

-- k is the one index of the set
pub record IsOnly (set : List Bool) (k : ℕ) : Type 0 where
  pub here : flag set k ≡ true
  pub alone : (j : ℕ) → flag set j ≡ true → j ≡ k

-- each bit that is set in the words is set in the others
pub record HasBitsWithin (words others : List ℕ) : Type 0 where
  pub each : (k : ℕ) → has_bit words k ≡ true → has_bit others k ≡ true

-- each index of the inner set is in the outer set
pub record IsWithin (inner outer : List Bool) : Type 0 where
  pub each : (k : ℕ) → flag inner k ≡ true → flag outer k ≡ true

-- all indices below the size are in the set
pub record IsWhole (set : List Bool) (size : ℕ) : Type 0 where
  pub sized : length set ≡ size
  pub all : (k : ℕ) → flag set k ≡ nat_lt k size

-- bit k is the first that is set from `from` on
pub record IsFirstBit (words : List ℕ) (from k : ℕ) : Type 0 where
  pub later : from ≤ k
  pub known : k < 64 * length words
  pub here : has_bit words k ≡ true
  pub least : (j : ℕ) → from ≤ j → j < k → has_bit words j ≡ false

-- bit k is the first that is not set from `from` on
pub record IsFirstClear (words : List ℕ) (from k : ℕ) : Type 0 where
  pub later : from ≤ k
  pub here : has_bit words k ≡ false
  pub least : (j : ℕ) → from ≤ j → j < k → has_bit words j ≡ true

-- the indices from `from` to `last` are in the set, and the next is not
pub record IsRun (set : List Bool) (from last : ℕ) : Type 0 where
  pub ordered : from ≤ last
  pub known : last < length set
  pub all : (j : ℕ) → from ≤ j → j ≤ last → flag set j ≡ true
  pub ends : flag set (last + 1) ≡ false

-- the words are padded, with their count and their lowest bit
pub record IsKept (size count first : ℕ) (words : List ℕ) : Type 0 where
  pub padded : IsPadded size words
  pub counted : count ≡ count_below (has_bit words) size
  pub lowest : IsLowest size words first
