-- What a shelf answers of its files.
use Rattle.std.specs.Prelude.{◌≡◌, ◌<◌, ◌≤◌, ⊤, ℕ, Bool, true, false, List, [], ◌∷◌, ◌++◌, length, Some, None, Ok, Err, Result, Vec, unwrap_or, if◌then◌else◌}
use Rattle.std.specs.Str.{bytes_eq}
use Rattle.std.specs.declared.alloc.Global.{Global}
use Rattle.std.specs.declared.option.Option.{Option}
use Rattle.rf_base.specs.declared.shelf.Fetch.{Fetch}
use Rattle.rf_base.specs.declared.shelf.Fetch.TheVariants.{Failed, Large, Memory}

-- Of a file whose bytes are told: an Ok has them, and it is too large only above the limit.
abbrev pub ReadsFile : List ℕ → ℕ → Result (Vec ℕ Global) Fetch → Type 0
ReadsFile bytes limit (Ok found) = (found.items ≡ bytes) × (length bytes ≤ limit)
ReadsFile bytes limit (Err Large) = limit < length bytes
ReadsFile bytes limit (Err Failed) = Unit {0}
ReadsFile bytes limit (Err Memory) = Unit {0}

-- Of a file that is told to be missing: neither its bytes nor that it is too large.
abbrev pub MissesFile : Result (Vec ℕ Global) Fetch → Type 0
MissesFile (Ok found) = ⊥
MissesFile (Err Large) = ⊥
MissesFile (Err Failed) = Unit {0}
MissesFile (Err Memory) = Unit {0}

-- what a shelf may tell of a name: that the file is missing, or its bytes
abbrev pub Fetches : Option (Option (List ℕ)) → ℕ → Result (Vec ℕ Global) Fetch → Type 0
Fetches None limit result = Unit {0}
Fetches (Some None) limit result = MissesFile result
Fetches (Some (Some bytes)) limit result = ReadsFile bytes limit result

-- the bytes of the first file of a name
abbrev pub file_of : List (List ℕ × Vec ℕ Global) → List ℕ → Option (List ℕ)
file_of [] name = None
file_of (file ∷ files) name = if bytes_eq file.0 name then Some file.1.items else file_of files name

-- what a shelf without faults tells of a name: its first file's bytes, and none where it has no file
abbrev pub clean_file_of : List (List ℕ × Vec ℕ Global) → List ℕ → Option (Option (List ℕ))
clean_file_of files name = Some (Some (unwrap_or (file_of files name) []))

-- an ask: the name that was asked for, and whether it failed
abbrev pub Ask : Type 0
Ask = List ℕ × Bool

-- Asks that are told grow by these. What tells goes on telling.
abbrev pub AppendsAsks : Option (List Ask) → Option (List Ask) → List Ask → Type 0
AppendsAsks None new more = ⊤
AppendsAsks (Some before) None more = ⊥
AppendsAsks (Some before) (Some after) more = after ≡ before ++ more

-- A fetch is one ask, of this name, which failed where the fetch did. After want of memory nothing is said.
abbrev pub AsksOnce : Option (List Ask) → Option (List Ask) → List ℕ → Result (Vec ℕ Global) Fetch → Type 0
AsksOnce old new name (Ok found) = AppendsAsks old new ((name, false) ∷ [])
AsksOnce old new name (Err Failed) = AppendsAsks old new ((name, true) ∷ [])
AsksOnce old new name (Err Large) = AppendsAsks old new ((name, false) ∷ [])
AsksOnce old new name (Err Memory) = Unit {0}
