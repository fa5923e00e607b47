-- What is left of a box where one condition of a line is the only one that doesn't hold throughout it.
use Rattle.std.specs.Prelude.{◌≡◌, ℕ, ◌<◌, List, true, false, Some, length, slice_index_or, Contains}
use Rattle.rf_log.specs.declared.cond.Cond.{Cond}
use Rattle.rf_log.specs.declared.hint.Hint.TheVariants.{Earlier}
use Rattle.rf_log.specs.Box.{Box, is_met}
use Rattle.rf_log.specs.Case.{Case}
use Rattle.rf_log.specs.Hints.{Line, line_at}
use Rattle.rf_log.specs.Relations.{IsLiving}
use Rattle.rf_trail.specs.declared.entry.Entry.{Entry}
use Rattle.rf_propagate.specs.Laws.{IsBlocked}

-- only indices of the condition's carrier that meet it are gone
pub record IsPart (old new : Box) (cond : Cond) : Type 0 where
  pub fewer : (c k : ℕ) → new c k ≡ true → old c k ≡ true
  pub stays : (k : ℕ) → old cond.carrier k ≡ true → is_met cond k ≡ false → new cond.carrier k ≡ true

-- the indices of the condition's carrier that meet it are gone, and no others of it
pub record IsTaken (old new : Box) (cond : Cond) : Type 0 where
  pub fewer : (c k : ℕ) → new c k ≡ true → old c k ≡ true
  pub stays : (k : ℕ) → old cond.carrier k ≡ true → is_met cond k ≡ false → new cond.carrier k ≡ true
  pub none : (k : ℕ) → new cond.carrier k ≡ true → is_met cond k ≡ false

-- the removal of a range by a line
abbrev pub entry_by : ℕ → ℕ → ℕ → ℕ → Entry
entry_by line carrier lo hi = record { carrier = carrier; lo = lo; hi = hi; hint = Some (Earlier line) }

-- the line is blocked, where no set is empty and there is a carrier
pub record IsDone (case : Case) (b : ℕ → ℕ → Type 0) (conds : List Cond) : Type 0 where
  pub blocked : IsLiving case b → 0 < length case.carriers → IsBlocked b conds

-- so it is for each of the first lines
pub record AreDone (case : Case) (b : ℕ → ℕ → Type 0) (held : List Line) (n : ℕ) : Type 0 where
  pub each : (i : ℕ) (d : Line) → i < n → i < length held → IsDone case b (slice_index_or held i d).conds

-- each line that is held is one of the lines
pub record AreAmong (held lines : List Line) : Type 0 where
  pub each : (line : Line) → Contains held line → Contains lines line

-- the line is found by its number
pub record IsFound (lines : List Line) (line : Line) : Type 0 where
  pub is : line_at lines line.number ≡ Some line.conds
