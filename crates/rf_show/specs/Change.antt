use Rattle.std.specs.Prelude.{Bool, true, ◌&&◌, ◌++◌, ◌-◌, take, List, nat_le, nat_lt, length, slice_set, insert, remove}
use Rattle.rf_show.specs.declared.change.Change.{Change}
use Rattle.rf_show.specs.declared.change.Change.TheVariants.{Put, Take, Set, PutAll, TakeRest}

-- whether the place of a change is there
abbrev pub fits : {T : Type 0} → List T → Change T → Bool
fits xs (Put place item) = nat_le place (length xs)
fits xs (Take place) = nat_lt place (length xs)
fits xs (Set place item) = nat_lt place (length xs)
fits xs (PutAll more) = true
fits xs (TakeRest from room) = nat_le from (length xs) && nat_le (length xs - from) room

-- the list after a change
abbrev pub changed : {T : Type 0} → List T → Change T → List T
changed xs (Put place item) = insert xs place item
changed xs (Take place) = remove xs place
changed xs (Set place item) = slice_set xs place item
changed xs (PutAll more) = xs ++ more
changed xs (TakeRest from room) = take from xs
