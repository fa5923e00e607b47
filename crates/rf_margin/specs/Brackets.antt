-- The pairs that halving reaches.
use Rattle.std.specs.Prelude.{ℕ, ◌+◌, ◌/◌, ◌≤◌, List, Option, Some, None}
use Rattle.rf_log.specs.declared.line.LogLine.{LogLine}

-- the whole part of half of the sum
abbrev pub middle : ℕ → ℕ → ℕ
middle low high = (low + high) / 2

-- the pairs that halving from 0 and 1001 reaches
pub data IsBracket : ℕ → ℕ → Type 0 where
  whole : IsBracket 0 1001
  lower : {low high : ℕ} → IsBracket low high → low + 2 ≤ high → IsBracket low (middle low high)
  upper : {low high : ℕ} → IsBracket low high → low + 2 ≤ high → IsBracket (middle low high) high

-- the upper end of a bracket: that of a refutation, or 1001
abbrev pub high_of : Option (ℕ × List LogLine) → ℕ
high_of None = 1001
high_of (Some above) = above.0
