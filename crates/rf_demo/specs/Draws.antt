-- Numbers that are drawn one after another.
use Rattle.std.specs.Prelude.{ℕ, ◌+◌, ◌*◌, ◌/◌, ◌%◌, ◌^◌}

-- the state after a draw
unfoldable pub next_state : ℕ → ℕ
next_state state = (state * 6_364_136_223_846_793_005 + 1_442_695_040_888_963_407) % 2 ^ 64

-- the number below n that is drawn by going to this state
abbrev pub drawn : ℕ → ℕ → ℕ
drawn n state = (state / 2 ^ 33) % n
