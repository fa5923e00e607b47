-- The show in which only some locks are left.
use Rattle.std.specs.Prelude.{◌≡◌, ℕ, ◌+◌, Bool, true, ◌&&◌, List, [], ◌∷◌, Some, slice_get}
use Rattle.rf_log.specs.Case.{IsPlan, is_among}
use Rattle.rf_show.specs.Case.{case_of}
use Rattle.rf_show.specs.Show.{ShowData}
use Rattle.rf_show.specs.declared.carrier.Carrier.{Carrier}
use Rattle.rf_tighter.specs.Tighter.{IsTighter}

-- these carriers, of which the first has this place, where of the locked ones only those of the set are still locked
abbrev pub locked_from : ℕ → (ℕ → Bool) → List Carrier → List Carrier
locked_from place keep [] = []
locked_from place keep (c ∷ cs) = record c { locked = c.locked && keep place } ∷ locked_from (place + 1) keep cs

-- the show in which of the locked carriers only those of the set are still locked
abbrev pub locked_to : ShowData → (ℕ → Bool) → ShowData
locked_to show keep = record show { carriers = locked_from 0 keep show.carriers }

-- the show in which of the locked carriers only those of the list are still locked
abbrev pub kept : ShowData → List ℕ → ShowData
kept show keep = locked_to show (is_among keep)

-- each carrier of the first set is in the second
abbrev pub IsPartOf : (ℕ → Bool) → (ℕ → Bool) → Type 0
IsPartOf fewer more = (c : ℕ) → fewer c ≡ true → more c ≡ true

-- where every locked carrier is in the set, the show stays as it is
abbrev pub AllLocksAreKept : Type 0
AllLocksAreKept = (show : ShowData) (keep : ℕ → Bool) → ((c : ℕ) (carrier : Carrier) → slice_get show.carriers c ≡ Some carrier → carrier.locked ≡ true → keep c ≡ true)
    → locked_to show keep ≡ show

-- the show with more locks left is as tight as the one with fewer left: the same channels, of which fewer may be allowed
abbrev pub MoreLocksAreTighter : Type 0
MoreLocksAreTighter = (show : ShowData) (fewer more : ℕ → Bool) → IsPartOf fewer more → IsTighter (case_of (locked_to show fewer)) (case_of (locked_to show more))

-- a plan of the show with more locks left is one of the show with fewer left
abbrev pub FewerLocksKeepPlans : Type 0
FewerLocksKeepPlans = (show : ShowData) (fewer more : ℕ → Bool) (plan : List ℕ) → IsPartOf fewer more
    → IsPlan (case_of (locked_to show more)) plan → IsPlan (case_of (locked_to show fewer)) plan
