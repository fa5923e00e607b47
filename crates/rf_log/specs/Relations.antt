-- What is said of boxes by relations: the members of a box, what is within what, and what nothing more falls from.
use Rattle.std.specs.Prelude.{◌≡◌, ℕ, ◌<◌, List, length, IsTrue, Contains}
use Rattle.rf_terms.specs.declared.kind.Kind.{Kind}
use Rattle.rf_log.specs.declared.cond.Cond.{Cond}
use Rattle.rf_log.specs.Case.{Case, is_instance, breaks, is_allowed, count_of, counts_of}
use Rattle.rf_log.specs.Box.{Box, is_met}

-- the box of a test
abbrev pub members : Box → ℕ → ℕ → Type 0
members has c k = IsTrue (has c k)

-- each index of the first box is one of the second
abbrev pub IsWithin : (ℕ → ℕ → Type 0) → (ℕ → ℕ → Type 0) → Type 0
IsWithin a b = (c k : ℕ) → a c k → b c k

abbrev pub HasNone : (ℕ → ℕ → Type 0) → ℕ → Type 0
HasNone b c = (k : ℕ) → ¬ b c k

-- no carrier of the case has an empty set
abbrev pub IsLiving : Case → (ℕ → ℕ → Type 0) → Type 0
IsLiving case b = (c : ℕ) → c < length (counts_of case) → (k : ℕ) × b c k

-- the carrier is one of the case, and its set is empty
abbrev pub IsEmptied : Case → (ℕ → ℕ → Type 0) → ℕ → Type 0
IsEmptied case b c = (c < length (counts_of case)) × HasNone b c

-- k is the one index of c
abbrev pub IsSole : (ℕ → ℕ → Type 0) → ℕ → ℕ → Type 0
IsSole b c k = b c k × ((j : ℕ) → b c j → j ≡ k)

abbrev pub IsMet : Cond → ℕ → Type 0
IsMet cond k = IsTrue (is_met cond k)

-- each index of the condition's carrier meets it
abbrev pub HoldsThroughout : (ℕ → ℕ → Type 0) → Cond → Type 0
HoldsThroughout b cond = (k : ℕ) → b cond.carrier k → IsMet cond k

-- k is an index of c that meets each condition on it
pub record Meets (case : Case) (path : List Cond) (c k : ℕ) : Type 0 where
  pub known : k < count_of case c
  pub met : (cond : Cond) → Contains path cond → cond.carrier ≡ c → IsMet cond k

-- index k of c breaks an instance of one of the kinds, whose other carriers have one index each
pub record IsStruck (case : Case) (kinds : List Kind) (b : ℕ → ℕ → Type 0) (c k : ℕ) : Type 0 where
  pub kind : Kind
  pub among : Contains kinds kind
  pub roles : List ℕ
  pub at : ℕ → ℕ
  pub is_instance : IsTrue (is_instance case kind roles)
  pub target : Contains roles c
  pub here : at c ≡ k
  pub others : (r : ℕ) → Contains roles r → (r ≡ c → ⊥) → IsSole b r (at r)
  pub breaks : IsTrue (breaks case kind roles at)

-- nothing more can be removed by these kinds
abbrev pub IsSettled : Case → List Kind → (ℕ → ℕ → Type 0) → Type 0
IsSettled case kinds b = (c k : ℕ) → b c k → ¬ IsStruck case kinds b c k

abbrev pub IsAllowedThroughout : Case → (ℕ → ℕ → Type 0) → Type 0
IsAllowedThroughout case b = (c k : ℕ) → b c k → IsTrue (is_allowed case c k)
