-- Tests of the numbers of a range.
use Rattle.std.specs.Prelude.{◌≡◌, ℕ, ◌≤◌, Bool, true, false}

-- each number from lo to hi passes the test, or some number there fails it
abbrev pub IsEach : (ℕ → Bool) → ℕ → ℕ → Bool → Type 0
IsEach test lo hi true = (k : ℕ) → lo ≤ k → k ≤ hi → test k ≡ true
IsEach test lo hi false = (k : ℕ) × (lo ≤ k) × (k ≤ hi) × (test k ≡ false)
