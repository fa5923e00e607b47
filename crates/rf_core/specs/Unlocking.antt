-- A show while locks are given up, one carrier after another.
use Rattle.std.specs.Prelude.{ℕ, Bool, List, ◌||◌, nat_le}
use Rattle.rf_log.specs.Case.{is_among}
use Rattle.rf_show.specs.Show.{ShowData}
use Rattle.rf_tighter.specs.Locked.{locked_to}

-- the carriers of the list, and those from this place on
abbrev pub is_left : List ℕ → ℕ → ℕ → Bool
is_left keep from c = is_among keep c || nat_le from c

-- the show where of the carriers before this place only those of the list are still locked
abbrev pub eased_below : ShowData → List ℕ → ℕ → ShowData
eased_below show keep from = locked_to show (is_left keep from)
