-- Numbers that are drawn.
use Rattle.std.proofs.Common.{◌≡◌, ℕ, ◌+◌, ◌*◌, ◌%◌, ◌^◌}
use Rattle.std.proofs.Math.Nat.{mod-add-mod}
use Rattle.rf_demo.specs.Draws.{next_state}

-- a product and a sum that wrap are a state
pub stepped : (x : ℕ) → ((x * 6_364_136_223_846_793_005) % 2 ^ 64 + 1_442_695_040_888_963_407) % 2 ^ 64 ≡ next_state x
unfolding next_state
stepped x = mod-add-mod (x * 6_364_136_223_846_793_005) (2 ^ 64) 1_442_695_040_888_963_407
