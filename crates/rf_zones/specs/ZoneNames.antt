use Rattle.std.specs.Prelude.{ℕ, List, [], ◌∷◌}
use Rattle.rf_zones.specs.Filled.{filled_to}
use Rattle.rf_zones.specs.declared.zone_names.TheConstants.{MAX_ZONES}

-- the word `main`
abbrev pub main_zone : List ℕ
main_zone = 109 ∷ 97 ∷ 105 ∷ 110 ∷ []

-- the names, and fillers up to the room for them
abbrev pub filled : List (List ℕ) → List (List ℕ)
filled names = filled_to MAX_ZONES main_zone names
