use Rattle.std.proofs.Common.{◌≡◌, ◌∷◌, ◌++◌, [], ℕ, take}
use Rattle.std.specs.List.{list_any}
use Rattle.rf_zones.specs.Masks.{has_bit, has_bits}
use Rattle.rf_rules.proofs.company.Company.sharers.Given as goal

abbrev pub invariant-loop-slice : goal.invariant-loop-slice
invariant-loop-slice l = (c : ℕ) → has_bit l.mask c ≡ list_any (has_bits (l.t ++ c ∷ [])) (take l.slice-index l.slice-items)
