-- What lines fetch from the shelf.
use Rattle.std.specs.Prelude.{◌≡◌, ◌≤◌, ◌<◌, ◌+◌, ◌-◌, ◌^◌, min, ℕ, Bool, true, false, List, [], ◌∷◌, length, count_by, All, Some, None}
use Rattle.std.specs.List.{flat_map, list_any}
use Rattle.std.specs.Str.{bytes_eq}
use Rattle.std.specs.declared.option.Option.{Option}
use Rattle.rf_base.specs.Shelf.{Ask, AppendsAsks}
use Rattle.rf_session.specs.declared.file.File.{File}
use Rattle.rf_session.specs.declared.file.File.TheVariants.{Found, TooLarge, Fault}

-- What came of a file: its bytes, that it is too large, or a fault.
pub data Got : Type 0 where
  found : List ℕ → Got
  too_large : Got
  fault : Got

-- The fetch of a line: the line names no file, or the file of this name, and this came of it.
pub data Fetched : Type 0 where
  absent : Fetched
  of_file : List ℕ → Got → Fetched

-- What a machine meets: the bytes that its sink holds, what its shelf tells of each name, how often each name failed, and what the
-- shelf was asked for.
pub record Outside : Type 0 where
  pub written : Option (List ℕ)
  pub file : List ℕ → Option (Option (List ℕ))
  pub faults : List ℕ → ℕ
  pub asked : Option (List Ask)

-- an outside of which the shelf alone is looked at
abbrev pub shelf_alone : (List ℕ → Option (Option (List ℕ))) → (List ℕ → ℕ) → Option (List Ask) → Outside
shelf_alone file faults asked = record { written = None; file = file; faults = faults; asked = asked }

abbrev pub outside : Option (List ℕ) → (List ℕ → Option (Option (List ℕ))) → (List ℕ → ℕ) → Option (List Ask) → Outside
outside written file faults asked = record { written = written; file = file; faults = faults; asked = asked }

-- the largest file that a line may name
abbrev pub file_limit : ℕ
file_limit = 16_777_216

-- what may come of a file that may have so many bytes, of which the shelf tells this: always a fault; otherwise its bytes, or that they
-- are too many
abbrev pub MayComeWithin : ℕ → Option (Option (List ℕ)) → Got → Type 0
MayComeWithin limit None (found bytes) = length bytes ≤ limit
MayComeWithin limit None too_large = Unit {0}
MayComeWithin limit None fault = Unit {0}
MayComeWithin limit (Some None) (found bytes) = ⊥
MayComeWithin limit (Some None) too_large = ⊥
MayComeWithin limit (Some None) fault = Unit {0}
MayComeWithin limit (Some (Some held)) (found bytes) = (bytes ≡ held) × (length held ≤ limit)
MayComeWithin limit (Some (Some held)) too_large = limit < length held
MayComeWithin limit (Some (Some held)) fault = Unit {0}

abbrev pub MayBringWithin : ℕ → (List ℕ → Option (Option (List ℕ))) → Fetched → Type 0
MayBringWithin limit file absent = Unit {0}
MayBringWithin limit file (of_file name got) = MayComeWithin limit (file name) got

-- the same of a file that a line names
abbrev pub MayCome : Option (Option (List ℕ)) → Got → Type 0
MayCome = MayComeWithin file_limit

abbrev pub MayBring : (List ℕ → Option (Option (List ℕ))) → Fetched → Type 0
MayBring = MayBringWithin file_limit

-- a fetch of this file
abbrev pub asks_for : List ℕ → Fetched → Bool
asks_for name absent = false
asks_for name (of_file other got) = bytes_eq other name

-- a fetch of this file that was a fault
abbrev pub fails_at : List ℕ → Fetched → Bool
fails_at name absent = false
fails_at name (of_file other (found bytes)) = false
fails_at name (of_file other too_large) = false
fails_at name (of_file other fault) = bytes_eq other name

abbrev pub is_fault : Got → Bool
is_fault (found bytes) = false
is_fault too_large = false
is_fault fault = true

-- a line that names no file asks for nothing, and one that names a file asks for it once
abbrev pub ask_made : Fetched → List Ask
ask_made absent = []
ask_made (of_file name got) = (name, is_fault got) ∷ []

-- the asks that are these fetches, in their order
abbrev pub asks_made : List Fetched → List Ask
asks_made fetches = flat_map ask_made fetches

-- The shelf brought these, of at most so many bytes each: each is a fault or what the shelf tells of the file, no file had more
-- faults among them than its count rose by (a count may stand at its type's end), the shelf goes on telling the same, and it was
-- asked for these and for nothing else, each time once.
pub record BroughtWithin (limit : ℕ) (before after : Outside) (fetches : List Fetched) : Type 0 where
  pub told : All (MayBringWithin limit before.file) fetches
  pub bound : (name : List ℕ) → min (before.faults name + count_by (fails_at name) fetches) (2 ^ 64 - 1) ≤ after.faults name
  pub same : (name : List ℕ) → after.file name ≡ before.file name
  pub asks : AppendsAsks before.asked after.asked (asks_made fetches)

-- the shelf brought these files that lines name
abbrev pub Brought : Outside → Outside → List Fetched → Type 0
Brought = BroughtWithin file_limit

-- the count of a file for which nothing asked stayed as it was
abbrev pub KeptCounts : Outside → Outside → List Fetched → Type 0
KeptCounts before after fetches = (name : List ℕ) → list_any (asks_for name) fetches ≡ false → after.faults name ≡ before.faults name

-- the fetch of a line that names this file, or none, where this came of the file
abbrev pub fetch_of : Option (List ℕ) → Got → Fetched
fetch_of None got = absent
fetch_of (Some name) got = of_file name got

-- A line was obeyed: what its fetch came to, and that the shelf brought it.
pub record Obeyed (step : Fetched → Type 0) (before after : Outside) : Type 0 where
  pub fetched : Fetched
  pub took : step fetched
  pub brought : Brought before after (fetched ∷ [])
  pub kept : KeptCounts before after (fetched ∷ [])

-- what came of a file
abbrev pub got_of : File → Got
got_of (Found bytes) = found bytes.items
got_of TooLarge = too_large
got_of Fault = fault
