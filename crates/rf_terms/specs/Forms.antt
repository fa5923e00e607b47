-- What the form of a kind is at frequencies, and where it is broken.
use Rattle.std.specs.Prelude.{◌<◌, ◌≤◌, ℕ, ℤ, pos, ◌+ℤ◌, ◌*ℤ◌, unsigned_abs, List, [], ◌∷◌, All, map}
use Rattle.rf_terms.specs.Kinds.{coefficients_of}
use Rattle.rf_terms.specs.declared.kind.Kind.{Kind}

-- the sum of the numbers, each times its coefficient
abbrev pub form : List ℤ → List ℤ → ℤ
form [] xs = pos 0
form (c ∷ cs) [] = pos 0
form (c ∷ cs) (x ∷ xs) = (c *ℤ x) +ℤ form cs xs

abbrev pub value_of : Kind → List ℕ → ℤ
value_of kind freqs = form (coefficients_of kind) (map pos freqs)

-- the form lies nearer to 0 than the margin
abbrev pub IsBroken : Kind → List ℕ → ℕ → Type 0
IsBroken kind freqs margin = unsigned_abs (value_of kind freqs) < margin

abbrev pub AreFrequencies : List ℕ → Type 0
AreFrequencies = All (λ f. f ≤ 10000000)
