-- Which conditions of a line hold throughout a box.
use Rattle.std.specs.Prelude.{◌≡◌, ℕ, ◌<◌, ◌≤◌, List, true, false, length, slice_index_or, All}
use Rattle.rf_log.specs.declared.cond.Cond.{Cond}
use Rattle.rf_log.specs.Box.{Box, is_met}
use Rattle.rf_log.specs.Relations.{members, HoldsThroughout}
use Rattle.rf_domain.specs.Sets.{size_of}

-- the condition is one on the indices of a carrier with such counts
pub record FitsIn (counts : List ℕ) (cond : Cond) : Type 0 where
  pub ordered : cond.lo ≤ cond.hi
  pub known : cond.hi < size_of counts cond.carrier

-- so is each of a line
abbrev pub AllFit : List ℕ → List Cond → Type 0
AllFit counts conds = All (FitsIn counts) conds

-- each index of the condition's carrier meets it
pub record Holds (b : Box) (cond : Cond) : Type 0 where
  pub each : HoldsThroughout (members b) cond

-- k is an index of the condition's carrier that does not meet it
pub record IsUnmet (b : Box) (cond : Cond) (k : ℕ) : Type 0 where
  pub here : b cond.carrier k ≡ true
  pub unmet : is_met cond k ≡ false

-- the conditions from a place on hold throughout
pub record HoldFrom (b : Box) (conds : List Cond) (from : ℕ) : Type 0 where
  pub each : (j : ℕ) (d : Cond) → from ≤ j → j < length conds → Holds b (slice_index_or conds j d)

-- the first place from `from` on where the condition doesn't hold throughout
pub record IsNextOpen (b : Box) (conds : List Cond) (from place : ℕ) : Type 0 where
  pub later : from ≤ place
  pub known : place < length conds
  pub fails : (d : Cond) → (k : ℕ) × IsUnmet b (slice_index_or conds place d) k
  pub before : (j : ℕ) (d : Cond) → from ≤ j → j < place → Holds b (slice_index_or conds j d)

-- the condition at that place is the only one that doesn't hold throughout
pub record IsOneOpen (b : Box) (conds : List Cond) (place : ℕ) (cond : Cond) : Type 0 where
  pub known : place < length conds
  pub is : slice_index_or conds place cond ≡ cond
  pub fails : (k : ℕ) × IsUnmet b cond k
  pub others : (j : ℕ) (d : Cond) → j < length conds → (j ≡ place → ⊥) → Holds b (slice_index_or conds j d)
