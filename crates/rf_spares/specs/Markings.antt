-- Frequencies that are marked, by intervals of them.
use Rattle.std.specs.Prelude.{◌≡◌, ◌<◌, ◌≤◌, ◌+◌, ◌-◌, ◌||◌, ℕ, Bool, length, nat_lt, take}
use Rattle.std.specs.List.{list_any}
use Rattle.rf_spares.specs.declared.marks.Marks.{Marks}

-- a frequency lies in an interval that begins at or below it, and ends above it
unfoldable pub is_marked : Marks → ℕ → Bool
is_marked marks f = list_any (nat_lt f) (take (f + 1 - marks.low) marks.ends.items)

-- the marks are for this frequency
abbrev pub Spans : Marks → ℕ → Type 0
Spans marks f = (marks.low ≤ f) × (f < marks.low + length marks.ends.items)

-- the new marks have, beside the old ones, those frequencies that pass a test
pub record Gains (old new : Marks) (test : ℕ → Bool) : Type 0 where
  pub low : new.low ≡ old.low
  pub size : length new.ends.items ≡ length old.ends.items
  pub marks : (f : ℕ) → f ≤ 10000000 → Spans old f → is_marked new f ≡ (is_marked old f || test f)

-- the greatest end of the intervals that begin at one of the first places
abbrev pub IsReach : Marks → ℕ → ℕ → Type 0
IsReach marks count reach = (x : ℕ) → nat_lt x reach ≡ list_any (nat_lt x) (take count marks.ends.items)
