-- Flags of carriers.
use Rattle.std.specs.Prelude.{◌≡◌, ℕ, ◌<◌, List, Bool, true, false, is_some, slice_index_or, All, Contains}
use Rattle.rf_log.specs.Case.{Case, is_among}
use Rattle.rf_log.specs.Box.{Box, only_index}

abbrev pub is_flagged : List Bool → ℕ → Bool
is_flagged flags c = slice_index_or flags c false

-- just the carriers with one index are flagged
pub record AreSingles (case : Case) (has : Box) (flags : List Bool) : Type 0 where
  pub one : (c : ℕ) → is_flagged flags c ≡ true → is_some (only_index case has c) ≡ true
  pub all : (c : ℕ) → is_some (only_index case has c) ≡ true → is_flagged flags c ≡ true

-- a flagged carrier has at most one index
pub record HaveFew (has : Box) (flags : List Bool) : Type 0 where
  pub each : (c j k : ℕ) → is_flagged flags c ≡ true → has c j ≡ true → has c k ≡ true → j ≡ k

-- some of the first n carriers, and among them all that are single and not known
pub record AreFresh (n : ℕ) (single known : List Bool) (fresh : List ℕ) : Type 0 where
  pub there : All (λ c. c < n) fresh
  pub all : (c : ℕ) → c < n → is_flagged single c ≡ true → is_flagged known c ≡ false → Contains fresh c

-- those of these carriers that have one index are flagged
pub record AreFlagged (case : Case) (has : Box) (flags : List Bool) (others : List ℕ) : Type 0 where
  pub each : (o : ℕ) → is_among others o ≡ true → is_some (only_index case has o) ≡ true → is_flagged flags o ≡ true
