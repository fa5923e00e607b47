use Rattle.std.specs.Prelude.{ℕ, Bool, List, nat_lt, ◌&&◌}
use Rattle.std.specs.List.{list_all, list_any}
use Rattle.rf_zones.specs.Slices.{on_at}

-- whether all numbers of a list are below n
abbrev pub all_below : ℕ → List ℕ → Bool
all_below n = list_all (λ k. nat_lt k n)

-- whether all of a set are on in a minute in which one of these intervals begins
abbrev pub share_begin : List (List (ℕ × ℕ)) → List ℕ → List (ℕ × ℕ) → Bool
share_begin times set list = list_any (λ i. nat_lt i.0 10080 && list_all (on_at times i.0) set) list
