-- Ranges of indices by their frequencies.
use Rattle.std.specs.Prelude.{ℕ, ◌<◌, ◌≤◌, ℤ, pos, ◌≤ℤ◌, List, length, slice_index}

abbrev pub IsIn : ℤ → ℤ → ℕ → Type 0
IsIn lo hi f = (lo ≤ℤ pos f) × (pos f ≤ℤ hi)

-- no frequency lies from lo to hi
pub record HasNoneIn (freqs : List ℕ) (lo hi : ℤ) : Type 0 where
  pub none : (k : ℕ) → k < length freqs → ¬ IsIn lo hi (slice_index freqs k)

-- just the frequencies from index first to index last lie from lo to hi
pub record IsRangeOf (freqs : List ℕ) (lo hi : ℤ) (first last : ℕ) : Type 0 where
  pub ordered : first ≤ last
  pub known : last < length freqs
  pub inside : (k : ℕ) → first ≤ k → k ≤ last → IsIn lo hi (slice_index freqs k)
  pub all : (k : ℕ) → k < length freqs → IsIn lo hi (slice_index freqs k) → (first ≤ k) × (k ≤ last)

-- just the first n frequencies are below a number
pub record AreBelow (freqs : List ℕ) (number n : ℕ) : Type 0 where
  pub few : n ≤ length freqs
  pub below : (k : ℕ) → k < n → slice_index freqs k < number
  pub above : (k : ℕ) → n ≤ k → k < length freqs → number ≤ slice_index freqs k
