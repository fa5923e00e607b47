-- What a path leaves to the carriers, on the way to its closure.
use Rattle.std.specs.Prelude.{◌≡◌, ℕ, ◌<◌, ◌≤◌, ◌==◌, List, [], Bool, true, false, Option, None, Some, is_some, length, slice_get, slice_set, take, ℤ, pos, unsigned_abs, ◌+ℤ◌, ◌*ℤ◌, ◌↔◌, ◌⊎◌}
use Rattle.std.specs.Prelude.{slice_index, slice_index_or, IsTrue, Contains, if◌then◌else◌}
use Rattle.std.specs.Option.{unwrap_or}
use Rattle.rf_terms.specs.declared.kind.Kind.{Kind}
use Rattle.rf_terms.specs.Kinds.{kinds, roles_of, coefficients_of}
use Rattle.rf_log.specs.declared.cond.Cond.{Cond}
use Rattle.rf_log.specs.Case.{Case, count_of, margin_of, freq_of, is_instance, breaks, is_allowed}
use Rattle.rf_log.specs.Box.{Box, is_met}
use Rattle.rf_log.specs.Relations.{members, IsLiving, IsWithin, Meets}
use Rattle.rf_log.specs.Closure.{Round, Closure}

-- whether index k is marked
abbrev pub has : List Bool → ℕ → Bool
has marks k = slice_index_or marks k false

-- no index from the first number to below the second is marked
abbrev pub HasNoneIn : List Bool → ℕ → ℕ → Type 0
HasNoneIn marks from end = (k : ℕ) → from ≤ k → k < end → has marks k ≡ false

-- k is the first of them that is marked
pub record IsFirstIn (marks : List Bool) (from end k : ℕ) : Type 0 where
  pub above : from ≤ k
  pub below : k < end
  pub here : has marks k ≡ true
  pub none : HasNoneIn marks from k

-- the box of a list of sets
abbrev pub in_sets : List (List Bool) → Box
in_sets sets c k = has (slice_index_or sets c []) k

-- the index at which a carrier was found fixed
abbrev pub fixed_at : List (Option ℕ) → ℕ → Option ℕ
fixed_at fixed c = slice_index_or fixed c None

-- the indices of fixed carriers, with index k for the target
abbrev pub with_target : List (Option ℕ) → ℕ → ℕ → ℕ → ℕ
with_target fixed target k c = if c == target then k else unwrap_or (fixed_at fixed c) 0

-- each role but the one in this place is of a fixed carrier
abbrev pub AreFixed : List (Option ℕ) → List ℕ → ℕ → Type 0
AreFixed fixed roles place = (i : ℕ) → i < length roles → (i ≡ place → ⊥) → is_some (fixed_at fixed (slice_index roles i)) ≡ true

-- no index that is left to the carrier in this place breaks the instance
abbrev pub IsCleared : Case → List (Option ℕ) → Box → Kind → List ℕ → ℕ → Type 0
IsCleared case fixed box kind roles place = IsTrue (is_instance case kind roles)
    → (k : ℕ) → box (slice_index roles place) k ≡ true → breaks case kind roles (with_target fixed (slice_index roles place) k) ≡ false

-- where the closure has no empty set, the box has what some round leaves
abbrev pub Covers : Case → List Cond → Box → Type 0
Covers case path box = (n : ℕ) × (IsLiving case (Closure case path) → IsWithin (Round case path n) (members box))

-- allowed indices that meet the path, with all those of the closure, and only the index of a fixed carrier
pub record IsUnder (case : Case) (path : List Cond) (fixed : List (Option ℕ)) (box : Box) : Type 0 where
  pub within : (c k : ℕ) → members box c k → Meets case path c k × IsTrue (is_allowed case c k)
  pub covers : Covers case path box
  pub held : (c k j : ℕ) → fixed_at fixed c ≡ Some k → box c j ≡ true → j ≡ k

-- a set for each carrier, with a mark for each of its channels
pub record AreSized (case : Case) (sets : List (List Bool)) : Type 0 where
  pub full : length sets ≡ length case.carriers
  pub sizes : (c : ℕ) → length (slice_index_or sets c []) ≡ count_of case c

-- an index for each fixed carrier, one of its channels
pub record AreKnown (case : Case) (fixed : List (Option ℕ)) : Type 0 where
  pub full : length fixed ≡ length case.carriers
  pub known : (c k : ℕ) → fixed_at fixed c ≡ Some k → k < count_of case c

-- a set for each carrier, and from these sets nothing more falls by the fixed carriers
pub record IsLeft (case : Case) (path : List Cond) (fixed : List (Option ℕ)) (sets : List (List Bool)) : Type 0 where
  pub sized : AreSized case sets
  pub known : AreKnown case fixed
  pub under : IsUnder case path fixed (in_sets sets)
  pub cleared : (kind : Kind) (roles : List ℕ) (place : ℕ) → Contains kinds kind → place < length roles
      → AreFixed fixed roles place → IsCleared case fixed (in_sets sets) kind roles place

-- what fell breaks instances whose other carriers are fixed
pub record Falls (case : Case) (fixed : List (Option ℕ)) (old new : List (List Bool)) : Type 0 where
  pub sized : AreSized case new
  pub under : (path : List Cond) → IsUnder case path fixed (in_sets old) → IsUnder case path fixed (in_sets new)
  pub fewer : (c k : ℕ) → in_sets new c k ≡ true → in_sets old c k ≡ true

-- a kind with its number in the rule table, and a place among its roles
pub record IsAim (kind : Kind) (number place : ℕ) : Type 0 where
  pub listed : number < length kinds
  pub is : slice_get kinds number ≡ Some kind
  pub low : place < roles_of kind

-- a fixed carrier in each of the first roles but the one in this place, with the frequencies of their indices
pub record AreChosen (case : Case) (fixed : List (Option ℕ)) (depth place : ℕ) (chosen freqs : List ℕ) : Type 0 where
  pub known : (i : ℕ) → i < depth → (i ≡ place → ⊥) → slice_index chosen i < length case.carriers
  pub are_fixed : (i : ℕ) → i < depth → (i ≡ place → ⊥) → is_some (fixed_at fixed (slice_index chosen i)) ≡ true
  pub theirs : (i : ℕ) → i < depth → (i ≡ place → ⊥) → slice_index freqs i ≡ freq_of case (slice_index chosen i) (unwrap_or (fixed_at fixed (slice_index chosen i)) 0)
  pub target : slice_index freqs place ≡ 0

-- the first roles are those that were chosen, but for the one in this place
abbrev pub IsAlong : ℕ → ℕ → List ℕ → List ℕ → Type 0
IsAlong depth place chosen roles = (i : ℕ) → i < depth → (i ≡ place → ⊥) → slice_index roles i ≡ slice_index chosen i

-- each instance of those that were chosen, with target c, is cleared
abbrev pub IsClearedAt : Case → List (Option ℕ) → List (List Bool) → Kind → ℕ → List ℕ → ℕ → Type 0
IsClearedAt case fixed sets kind place chosen c = (roles : List ℕ) → length roles ≡ roles_of kind → IsAlong (roles_of kind) place chosen roles
    → AreFixed fixed roles place → slice_index roles place ≡ c → IsCleared case fixed (in_sets sets) kind roles place

-- the indices of target c at which the form lies nearer to 0 than the margin, where it is `rest` with the target at 0
abbrev pub IsTargetWindow : Case → Kind → ℕ → List ℕ → ℤ → ℕ → ℕ × ℕ → Type 0
IsTargetWindow case kind place chosen rest c window = (k : ℕ) → k < count_of case c
    → (unsigned_abs (rest +ℤ (slice_index_or (coefficients_of kind) place (pos 0) *ℤ pos (freq_of case c k))) < margin_of case kind (take (roles_of kind) (slice_set chosen place c)))
    ↔ ((window.0 ≤ k) × (k < window.1))

-- whatever carriers follow, with carrier x in the place `at`, is cleared
abbrev pub IsClearedAlong : Case → List (Option ℕ) → List (List Bool) → Kind → ℕ → ℕ → ℕ → ℕ → List ℕ → Type 0
IsClearedAlong case fixed sets kind place at x depth chosen = (roles : List ℕ) → length roles ≡ roles_of kind
    → IsAlong depth place chosen roles → AreFixed fixed roles place → slice_index roles at ≡ x
    → IsCleared case fixed (in_sets sets) kind roles place

-- each instance of the kind with x in a role but the target's is cleared
abbrev pub IsClearedWith : Case → List (Option ℕ) → List (List Bool) → ℕ → Kind → ℕ → Type 0
IsClearedWith case fixed sets x kind place = (roles : List ℕ) (at : ℕ) → length roles ≡ roles_of kind → at < roles_of kind → (at ≡ place → ⊥)
    → AreFixed fixed roles place → slice_index roles at ≡ x → IsCleared case fixed (in_sets sets) kind roles place

-- what is left is the closure of the path, or the closure has an empty set
abbrev pub IsClosedTo : Case → List Cond → Box → Bool → Type 0
IsClosedTo case path box true = IsWithin (members box) (Closure case path) × IsLiving case (Closure case path)
IsClosedTo case path box false = IsLiving case (Closure case path) → ⊥

-- an index of the carrier on each side of a decision
pub record HasBoth (box : Box) (side : Cond) : Type 0 where
  pub left : (k : ℕ) × (box side.carrier k ≡ true) × (is_met side k ≡ true)
  pub right : (k : ℕ) × (box side.carrier k ≡ true) × (is_met side k ≡ false)

-- an index below the first number, or from the second on, is marked
pub record HasOutside (marks : List Bool) (from end : ℕ) : Type 0 where
  pub at : ℕ
  pub here : has marks at ≡ true
  pub out : (at < from) ⊎ (end ≤ at)
