-- The sets of all carriers, seen as a list of lists of flags, and the removals of ranges from them.
use Rattle.std.specs.Prelude.{◌≡◌, ℕ, zero, suc, ◌+◌, ◌≤◌, ◌==◌, List, [], length, map, Bool, true, not, ◌&&◌, ◌||◌, nat_lt, nat_le, slice_index_or, IsTrue}
use Rattle.std.specs.List.{list_all}
use Rattle.rf_domain.specs.declared.limits.TheConstants.{CARRIER_LIMIT, INDEX_LIMIT}
use Rattle.rf_domain.specs.Indices.{flag, count_below}

abbrev pub size_of : List ℕ → ℕ → ℕ
size_of counts c = slice_index_or counts c 0

-- the number of indices that each carrier's set was made for
abbrev pub sizes : List (List Bool) → List ℕ
sizes sets = map length sets

-- whether the index is in the carrier's set
abbrev pub has : List (List Bool) → ℕ → ℕ → Bool
has sets c k = flag (slice_index_or sets c []) k

-- every index of every carrier
abbrev pub full : List ℕ → ℕ → ℕ → Bool
full counts c k = nat_lt k (size_of counts c)

-- the sets without the indices of the carrier that pass the test
abbrev pub without : (ℕ → ℕ → Bool) → ℕ → (ℕ → Bool) → ℕ → ℕ → Bool
without old carrier gone c k = old c k && not ((c == carrier) && gone k)

-- the sets with the indices of the carrier that pass the test
abbrev pub with_all : (ℕ → ℕ → Bool) → ℕ → (ℕ → Bool) → ℕ → ℕ → Bool
with_all old carrier back c k = old c k || ((c == carrier) && back k)

abbrev pub total_below : List ℕ → (ℕ → ℕ → Bool) → ℕ → ℕ
total_below counts old zero = 0
total_below counts old (suc c) = total_below counts old c + count_below (old c) (size_of counts c)

-- how many indices there are in all sets
abbrev pub total_of : List ℕ → (ℕ → ℕ → Bool) → ℕ
total_of counts old = total_below counts old (length counts)

-- as many carriers as domains can have, each with as many indices as a set can have
pub record AreCounts (counts : List ℕ) : Type 0 where
  pub few : length counts ≤ CARRIER_LIMIT
  pub small : IsTrue (list_all (λ n. nat_le n INDEX_LIMIT) counts)

-- the sets have all indices below the counts
pub record AreFull (sets : List (List Bool)) (counts : List ℕ) : Type 0 where
  pub sized : sizes sets ≡ counts
  pub all : has sets ≡ full counts

-- each index of a carrier's inner set is in its outer set
pub record AreWithin (inner outer : List (List Bool)) : Type 0 where
  pub each : (c k : ℕ) → has inner c k ≡ true → has outer c k ≡ true
