use Rattle.std.specs.Prelude.{ℕ, List, ◌++◌, ◌-◌, length, replicate}

-- a list, and fillers up to a length
unfoldable pub filled_to : {X : Type 0} → ℕ → X → List X → List X
filled_to room filler items = items ++ replicate (room - length items) filler
