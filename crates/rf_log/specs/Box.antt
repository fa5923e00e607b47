-- Boxes: for each carrier a set of its indices, as a test of carrier and index.
use Rattle.std.specs.Prelude.{ℕ, zero, suc, ◌==◌, List, Option, Some, None, Bool, true, false, not, ◌&&◌, ◌||◌, nat_lt, nat_le, length, if◌then◌else◌}
use Rattle.std.specs.List.{list_all}
use Rattle.rf_log.specs.declared.cond.Cond.{Cond}
use Rattle.rf_log.specs.Case.{Case, count_of}

abbrev pub Box : Type 0
Box = ℕ → ℕ → Bool

-- the test holds of each number below n
abbrev pub each_below : ℕ → (ℕ → Bool) → Bool
each_below zero p = true
each_below (suc n) p = each_below n p && p n

-- the one number below n of which the test holds; none where it holds of no number there, or of two
abbrev pub only_below : ℕ → (ℕ → Bool) → Option ℕ
only_below zero p = None
only_below (suc n) p = if p n then (if each_below n (λ k. not (p k)) then Some n else None) else only_below n p

abbrev pub between : ℕ → ℕ → ℕ → Bool
between lo hi k = nat_le lo k && nat_le k hi

abbrev pub is_met : Cond → ℕ → Bool
is_met cond k = if cond.inside then between cond.lo cond.hi k else not (between cond.lo cond.hi k)

-- the index of carrier c meets the condition, where that is one on c
abbrev pub is_met_by : ℕ → ℕ → Cond → Bool
is_met_by c k cond = not (cond.carrier == c) || is_met cond k

-- for each carrier, all its indices that meet every condition on it
abbrev pub box_of : Case → List Cond → Box
box_of case conds c k = nat_lt k (count_of case c) && list_all (is_met_by c k) conds

-- every index of its carrier in the box meets the condition
abbrev pub holds_throughout : Case → Box → Cond → Bool
holds_throughout case box cond = each_below (count_of case cond.carrier) (λ k. not (box cond.carrier k) || is_met cond k)

-- the carrier's one index in the box, where it has exactly one
abbrev pub only_index : Case → Box → ℕ → Option ℕ
only_index case box c = only_below (count_of case c) (box c)

abbrev pub has_none : Case → Box → ℕ → Bool
has_none case box c = each_below (count_of case c) (λ k. not (box c k))

-- some carrier's set is empty
abbrev pub is_dead : Case → Box → Bool
is_dead case box = not (each_below (length case.carriers) (λ c. not (has_none case box c)))

-- the box without the indices of carrier c that pass the test
abbrev pub without : Box → ℕ → (ℕ → Bool) → Box
without box c gone d k = box d k && not ((d == c) && gone k)

abbrev pub nothing : Box
nothing c k = false
