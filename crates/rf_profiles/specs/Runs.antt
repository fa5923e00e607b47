-- Runs of neighbouring channels, range by range.
use Rattle.std.specs.Prelude.{ℕ, List, ◌∷◌, ◌+◌, length, [], Bool, ◌==◌, not, filter, ◌≡◌, ◌<◌, ◌≤◌, ◌-◌}
use Rattle.std.specs.List.{range_with_len, slice_split}
use Rattle.rf_profiles.specs.Range.{Span, frequencies}

-- the numbers of the channels of each range, where those of the first begin at `from`
abbrev pub blocks : ℕ → List Span → List (List ℕ)
blocks from [] = []
blocks from (range ∷ ranges) =
    range_with_len from (length (frequencies range)) ∷ blocks (from + length (frequencies range)) ranges

-- the longest runs of neighbours that pass
unfoldable pub runs : (ℕ → Bool) → List ℕ → List (List ℕ)
runs test ks = filter (λ run. not (length run == 0)) (slice_split (λ k. not (test k)) ks)

-- The first run among the numbers from `start` up to `end` goes from `first` up to `stop`.
pub record IsNextRun (test : ℕ → Bool) (start end first stop : ℕ) : Type 0 where
  pub after : start ≤ first
  pub some : first < stop
  pub within : stop ≤ end
  pub is : runs test (range_with_len start (end - start)) ≡ range_with_len first (stop - first) ∷ runs test (range_with_len stop (end - stop))
