use Rattle.std.specs.Prelude.{◌≡◌, ℕ, Bool, true, List, [], ◌∷◌, ◌≤◌, ◌&&◌, nat_le, nat_lt, length}
use Rattle.std.specs.List.{list_all, list_any}
use Rattle.rf_zones.specs.Filled.{filled_to}

-- an interval in minutes of the week, which holds its first number and not its second
abbrev pub is_interval : ℕ × ℕ → Bool
is_interval i = nat_lt i.0 i.1 && nat_le i.1 10080

abbrev pub holds : ℕ → ℕ × ℕ → Bool
holds minute i = nat_le i.0 minute && nat_lt minute i.1

-- whether a carrier with these intervals is on in a minute: always where there is none, else in each of them
abbrev pub is_on : List (ℕ × ℕ) → ℕ → Bool
is_on [] minute = true
is_on (i ∷ is) minute = list_any (holds minute) (i ∷ is)

-- what the times of a carrier keep
pub record IsTimes (times : List (ℕ × ℕ)) : Type 0 where
  pub few : length times ≤ 8
  pub valid : list_all is_interval times ≡ true

-- the intervals, and fillers up to eight
abbrev pub filled : List (ℕ × ℕ) → List (ℕ × ℕ)
filled times = filled_to 8 (0, 0) times
