-- Marks of the frequencies that may still be left to some carrier.
use Rattle.std.specs.Prelude.{◌≡◌, ℕ, ◌-◌, ◌/◌, ◌^◌, ◌<◌, ◌≤◌, Bool, true, List, [], ◌∷◌, min, length}
use Rattle.rf_domain.specs.Sets.{has, sizes}
use Rattle.rf_log.specs.Case.{Case, freq_of}
use Rattle.rf_log.specs.Box.{Box}
use Rattle.rf_props.specs.declared.live.TheConstants.{CELLS}

-- the cells that have a mark, as the set of one carrier; cells are 2 ^ shift kHz wide, and stand from the base on
pub record Marks : Type 0 where
  pub base : ℕ
  pub shift : ℕ
  pub cells : List (List Bool)

-- the cell of a frequency: the first takes all below it too, and the last all above it
abbrev pub cell_of : Marks → ℕ → ℕ
cell_of marks f = min ((f - marks.base) / 2 ^ marks.shift) (CELLS - 1)

abbrev pub is_marked : Marks → ℕ → Bool
is_marked marks f = has marks.cells 0 (cell_of marks f)

-- the frequency of each index that is left to the carrier is marked
pub record IsMarkedAt (case : Case) (left : Box) (marks : Marks) (c : ℕ) : Type 0 where
  pub small : (k : ℕ) → left c k ≡ true → freq_of case c k ≤ 10000000
  pub marked : (k : ℕ) → left c k ≡ true → is_marked marks (freq_of case c k) ≡ true

-- so it is for each carrier
pub record AreMarked (case : Case) (left : Box) (marks : Marks) : Type 0 where
  pub each : (c : ℕ) → c < length case.carriers → IsMarkedAt case left marks c

-- there are all cells, and the width of one is a number of 32 bits
pub record AreCells (marks : Marks) : Type 0 where
  pub whole : sizes marks.cells ≡ CELLS ∷ []
  pub narrow : marks.shift < 32
