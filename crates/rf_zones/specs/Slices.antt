use Rattle.std.specs.Prelude.{ℕ, suc, zero, Bool, false, List, [], ◌&&◌, ◌||◌, nat_lt, nat_eq, length, map, slice_index_or}
use Rattle.std.specs.List.{list_all}
use Rattle.rf_zones.specs.Masks.{with_bits}
use Rattle.rf_zones.specs.Times.{is_on}

-- whether a test passes for a number below n
unfoldable pub some_below : ℕ → (ℕ → Bool) → Bool
some_below zero test = false
some_below (suc n) test = some_below n test || test n

-- whether there is a k-th of these times, and it is on in a minute
abbrev pub on_at : List (List (ℕ × ℕ)) → ℕ → ℕ → Bool
on_at times minute k = nat_lt k (length times) && is_on (slice_index_or times k []) minute

-- whether all of a set are on in one minute of the week
unfoldable pub share_minute : List (List (ℕ × ℕ)) → List ℕ → Bool
share_minute times set = some_below 10080 (λ minute. list_all (on_at times minute) set)

-- the mask of those that are on in a minute
unfoldable pub mask_at : List (List (ℕ × ℕ)) → ℕ → ℕ
mask_at times minute = with_bits (map (λ t. is_on t minute) times)

-- whether a number is the mask of a minute of the week
unfoldable pub is_slice : List (List (ℕ × ℕ)) → ℕ → Bool
is_slice times mask = some_below 10080 (λ minute. nat_eq mask (mask_at times minute))
