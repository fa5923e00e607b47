-- A trail as its removals, the newest first, and the indices that they leave.
use Rattle.std.specs.Prelude.{ℕ, Bool, false, ◌||◌, ◌+◌, ◌-◌, ◌++◌, None, nat_lt, if◌then◌else◌, List, [], ◌∷◌}
use Rattle.rf_trail.specs.declared.entry.Entry.{Entry}
use Rattle.rf_log.specs.Relations.{members}
use Rattle.rf_log.specs.declared.cond.Cond.{Cond}
use Rattle.rf_domain.specs.Indices.{between}
use Rattle.rf_domain.specs.Sets.{full, without}

pub record Trace : Type 0 where
  pub counts : List ℕ
  pub entries : List Entry

-- the full sets without the ranges of the entries
abbrev pub has_of : List ℕ → List Entry → ℕ → ℕ → Bool
has_of counts [] = full counts
has_of counts (e ∷ es) = without (has_of counts es) e.carrier (between e.lo e.hi)

-- the indices that are left
abbrev pub box_of : Trace → ℕ → ℕ → Type 0
box_of t = members (has_of t.counts t.entries)

-- the removal of the indices from `from` up to `to`, if there are any, by a decision
abbrev pub cut_of : ℕ → ℕ → ℕ → List Entry
cut_of carrier from to = if nat_lt from to then record { carrier = carrier; lo = from; hi = to - 1; hint = None } ∷ [] else []

-- what a decision adds, the newest first
abbrev pub decided : Cond → ℕ → List Entry
decided cond size =
    if cond.inside then cut_of cond.carrier (cond.hi + 1) size ++ cut_of cond.carrier 0 cond.lo else cut_of cond.carrier cond.lo (cond.hi + 1)

-- the index is in the range of one of the entries
abbrev pub falls : List Entry → ℕ → Bool
falls [] k = false
falls (e ∷ es) k = between e.lo e.hi k || falls es k
