-- The front and the length of a list.
use Rattle.std.specs.Prelude.{◌≡◌, ◌+◌, ◌-◌, ◌^◌, min, take, length, List, [], ◌++◌}
use Rattle.rf_rules.specs.declared.tally.Tally.{Tally}
use Rattle.rf_rules.specs.declared.conflict.Conflict.{Conflict}

-- the part of a list that is shown
unfoldable pub shown_of : {X : Type 0} → List X → List X
shown_of xs = take 10000 xs

pub record IsEmpty (tally : Tally) : Type 0 where
  pub shown : tally.shown.items ≡ []
  pub total : tally.total ≡ 0

-- the new tally has these conflicts after those of the old
pub record Extends (old new : Tally) (conflicts : List Conflict) : Type 0 where
  pub shown : new.shown.items ≡ shown_of (old.shown.items ++ conflicts)
  pub total : new.total ≡ min (old.total + length conflicts) (2 ^ 64 - 1)
