-- How two zones stand to each other.
use Rattle.std.specs.Prelude.{ℕ, Bool, true, false, List, nat_le, if◌then◌else◌}
use Rattle.rf_zones.specs.Filled.{filled_to}
use Rattle.rf_zones.specs.declared.coupling.Coupling.{Coupling}
use Rattle.rf_zones.specs.declared.coupling.Coupling.TheVariants.{Apart, Coupled, Far}
use Rattle.rf_zones.specs.declared.couplings.TheConstants.{MAX_PAIRS}

-- whether carriers in the two zones hear each other
abbrev pub is_heard : Coupling → Bool
is_heard Apart = false
is_heard Coupled = true
is_heard Far = false

-- whether carriers in the two zones keep their spacing
abbrev pub is_reached : Coupling → Bool
is_reached Apart = false
is_reached Coupled = true
is_reached Far = true

-- whether carriers in the two zones have nothing to do with each other
abbrev pub is_apart : Coupling → Bool
is_apart Apart = true
is_apart Coupled = false
is_apart Far = false

-- whether carriers in zones that stand so to each other may be together in a set of so many: far coupled zones count for two
-- carriers, and not for more
abbrev pub joins : ℕ → Coupling → Bool
joins size coupling = if nat_le size 2 then is_reached coupling else is_heard coupling

-- the couplings, and fillers up to the room for them
abbrev pub filled : List Coupling → List Coupling
filled couplings = filled_to MAX_PAIRS Apart couplings
