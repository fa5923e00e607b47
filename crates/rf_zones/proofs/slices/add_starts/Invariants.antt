use Rattle.std.proofs.Common.{◌≡◌, ℕ, Bool, ◌||◌, take}
use Rattle.std.specs.List.{list_any}
use Rattle.rf_zones.specs.Slices.{mask_at}
use Rattle.rf_zones.proofs.slices.add_starts.Given as goal

abbrev pub invariant-loop-interval : goal.invariant-loop-interval
invariant-loop-interval l =
    (test : ℕ → Bool) → list_any test l.masks.items ≡ (list_any test l.initial.masks.items || list_any (λ i. test (mask_at l.times i.0)) (take l.interval-index l.list))
