-- The lines of the script that a number makes.
use Rattle.std.specs.Prelude.{ℕ, zero, suc, List, [], ◌∷◌, ◌++◌, ◌+◌, ◌*◌, ◌==◌, nat_le, if◌then◌else◌, codes, decimal}
use Rattle.rf_demo.specs.Draws.{drawn, next_state}

-- A line, and the state after its draws.
pub record Turn : Type 0 where
  pub line : List ℕ
  pub state : ℕ

abbrev pub turn : List ℕ → ℕ → Turn
turn line state = record { line = line; state = state }

abbrev pub zone_name : ℕ → List ℕ
zone_name n = if n == 0 then codes "main" else codes "z1"

abbrev pub carrier_name : ℕ → List ℕ
carrier_name n = codes "c" ++ decimal n

abbrev pub carrier_line : List ℕ → List ℕ → List ℕ
carrier_line name zone = codes "carrier " ++ name ++ codes " P " ++ zone

abbrev pub set_line : List ℕ → ℕ → List ℕ
set_line name step = codes "set " ++ name ++ codes " " ++ decimal (470_000 + 25 * step)

abbrev pub time_line : List ℕ → ℕ → List ℕ
time_line name hour = codes "time " ++ name ++ codes " " ++ decimal (60 * hour) ++ codes " " ++ decimal (60 * hour + 60)

-- the line of a first draw below 8 over this carrier, in the state after the draws of these two
abbrev pub turn_by : ℕ → List ℕ → ℕ → Turn
turn_by what name state =
    if what == 0 then turn (carrier_line name (zone_name (drawn 2 (next_state state)))) (next_state state)
    else if what == 1 then turn (codes "remove " ++ name) state
    else if nat_le what 4 then turn (set_line name (drawn 2_561 (next_state state))) (next_state state)
    else if what == 5 then turn (time_line name (drawn 168 (next_state state))) (next_state state)
    else if what == 6 then turn (codes "undo") state
    else turn (codes "always " ++ name) state

-- the line that is drawn from a state: first what it does, then its carrier, then what it needs
unfoldable pub turn_from : ℕ → Turn
turn_from state = turn_by (drawn 8 (next_state state)) (carrier_name (drawn 24 (next_state (next_state state)))) (next_state (next_state state))

-- so many lines, drawn one after another from a state
unfoldable pub drawn_lines : ℕ → ℕ → List (List ℕ)
drawn_lines zero state = []
drawn_lines (suc count) state = (turn_from state).line ∷ drawn_lines count (turn_from state).state

-- the first lines: a profile, and two zones that hear each other
abbrev pub opening : List (List ℕ)
opening = codes "profile P 470000 534000 25 350 0 100 50 0 0" ∷ codes "zone z1" ∷ codes "couple main z1" ∷ []

-- the script that a number makes
abbrev pub demo_lines : ℕ → ℕ → List (List ℕ)
demo_lines seed count = opening ++ drawn_lines count seed
