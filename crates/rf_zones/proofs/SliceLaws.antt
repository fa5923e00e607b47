-- Tests of the slices of a week.
use Rattle.std.proofs.Common.{◌≡◌, ℕ, suc, zero, Bool, refl, ap, ◌∙◌, ◌||◌}
use Rattle.rf_zones.specs.Slices.{some_below}

pub some_same : (n : ℕ) (p q : ℕ → Bool) → ((m : ℕ) → p m ≡ q m) → some_below n p ≡ some_below n q
unfolding some_below
some_same zero p q h = refl
some_same (suc n) p q h = ap (λ b. b || p n) (some_same n p q h) ∙ ap (λ b. some_below n q || b) (h n)
