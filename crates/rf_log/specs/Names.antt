-- How the names of a log are numbered.
use Rattle.std.specs.Prelude.{ℕ, List, [], ◌∷◌, ◌++◌, if◌then◌else◌}
use Rattle.std.specs.List.{list_any, position_or_len}
use Rattle.rf_base.specs.Name.{same_name}

-- the number of a name: its place among the names, or the next one
abbrev pub number_of_name : List (List ℕ) → List ℕ → ℕ
number_of_name names name = position_or_len (same_name name) names

-- the names and that name, which stands last where it is new
abbrev pub names_with : List (List ℕ) → List ℕ → List (List ℕ)
names_with names name = if list_any (same_name name) names then names else names ++ name ∷ []
