-- The names of carriers in replies.
use Rattle.std.specs.Prelude.{ℕ, List, [], ◌-◌, map, take, slice_get}
use Rattle.std.specs.Option.{option_map_or}
use Rattle.rf_terms.specs.declared.kind.Kind.{Kind}
use Rattle.rf_terms.specs.Kinds.{roles_of}
use Rattle.rf_show.specs.declared.carrier.Carrier.{Carrier}

-- the name of a carrier, which is a place in the show; empty past its end
abbrev pub name_at : List Carrier → ℕ → List ℕ
name_at carriers c = option_map_or (λ carrier. carrier.name) (slice_get carriers c) []

-- the names of a kind's sources, in the order of their roles
abbrev pub source_names : List Carrier → Kind → List ℕ → List (List ℕ)
source_names carriers kind sources = map (name_at carriers) (take (roles_of kind - 1) sources)
