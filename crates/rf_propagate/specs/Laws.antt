-- What propagators promise: reasons for what they remove, and what stands when they are quiet.
use Rattle.std.specs.Prelude.{◌≡◌, ℕ, ◌<◌, ◌≤◌, ◌++◌, List, ◌∷◌, Bool, length, Contains, IsTrue, slice_index, slice_index_or, map, Some, true, false}
use Rattle.rf_terms.specs.declared.kind.Kind.{Kind}
use Rattle.rf_log.specs.declared.hint.Hint.{Hint}
use Rattle.rf_log.specs.declared.cond.Cond.{Cond}
use Rattle.rf_log.specs.Case.{Case, counts_of}
use Rattle.rf_log.specs.Box.{Box, between}
use Rattle.rf_terms.specs.Kinds.{roles_of}
use Rattle.rf_log.specs.Relations.{IsLiving, IsSettled, IsAllowedThroughout, HoldsThroughout, IsMet, IsWithin, Meets}
use Rattle.rf_log.specs.Closure.{Closure}
use Rattle.rf_log.specs.Hints.{Line, line_at, effect_of}
use Rattle.rf_log.specs.declared.hint.Hint.TheVariants.{Earlier, Ban, Rule}
use Rattle.rf_trail.specs.declared.entry.Entry.{Entry}
use Rattle.rf_trail.specs.Trace.{has_of}

-- a ban or a rule is for the carrier and the range of the entry; the roles beyond the kind's are 0
abbrev pub IsOwn : Hint → Entry → Type 0
IsOwn (Earlier line) e = Unit {0}
IsOwn (Ban carrier lo hi) e = (carrier ≡ e.carrier) × (lo ≡ e.lo) × (hi ≡ e.hi)
IsOwn (Rule kind roles target lo hi) e = (slice_index roles target ≡ e.carrier) × (lo ≡ e.lo) × (hi ≡ e.hi)
    × (target < roles_of kind) × ((i : ℕ) → roles_of kind ≤ i → slice_index_or roles i 0 ≡ 0)

-- the entry has a hint that has an effect in what the earlier entries leave, and the effect takes its range
pub record IsJustified (case : Case) (lines : List Line) (es : List Entry) (e : Entry) : Type 0 where
  pub hint : Hint
  pub is : e.hint ≡ Some hint
  pub after : Box
  pub works : effect_of case (line_at lines) (has_of (counts_of case) es) hint ≡ Some after
  pub gone : (k : ℕ) → between e.lo e.hi k ≡ true → after e.carrier k ≡ false
  pub own : IsOwn hint e
  pub ordered : e.lo ≤ e.hi
  pub in_range : e.hi < slice_index_or (counts_of case) e.carrier 0

-- the entries (the newest first) are the old ones and justified ones
pub data Extends (case : Case) (lines : List Line) : List Entry → List Entry → Type 0 where
  same : {es : List Entry} → Extends case lines es es
  more : {es fs : List Entry} {e : Entry} → Extends case lines es fs → IsJustified case lines fs e → Extends case lines es (e ∷ fs)

-- nothing is left to do for these kinds and, where asked for, for what is not allowed
pub record IsQuiet (case : Case) (kinds : List Kind) (bans : Bool) (b : ℕ → ℕ → Type 0) : Type 0 where
  pub living : IsLiving case b
  pub settled : IsSettled case kinds b
  pub allowed : IsTrue bans → IsAllowedThroughout case b

-- two conditions of the line do not hold throughout, or one does not and no index is left that meets it
pub data IsBlocked (b : ℕ → ℕ → Type 0) (conds : List Cond) : Type 0 where
  two : (i j : ℕ) (c d : Cond) → i < j → j < length conds
      → slice_index_or conds i c ≡ c → slice_index_or conds j d ≡ d
      → (HoldsThroughout b c → ⊥) → (HoldsThroughout b d → ⊥) → IsBlocked b conds
  one : (i : ℕ) (c : Cond) → i < length conds → slice_index_or conds i c ≡ c
      → (HoldsThroughout b c → ⊥) → ((j : ℕ) (d : Cond) → j < length conds → (j ≡ i → ⊥) → HoldsThroughout b (slice_index_or conds j d))
      → ((k : ℕ) → b c.carrier k → IsMet c k → ⊥) → IsBlocked b conds

-- each line held is blocked, where the case has a carrier
pub record Blocks (case : Case) (b : ℕ → ℕ → Type 0) (held : List Line) : Type 0 where
  pub each : 0 < length case.carriers → (line : Line) → Contains held line → IsBlocked b line.conds

-- the second lines are the first and further ones
abbrev pub HasMore : List Line → List Line → Type 0
HasMore lines others = (more : List Line) × (others ≡ lines ++ more)

-- what an engine is made of
pub record Driven (T P : Type 0) : Type 0 where
  pub theory : T
  pub propagator : P

-- the number is above those of the lines
pub record IsAbove (number : ℕ) (lines : List Line) : Type 0 where
  pub each : (line : Line) → Contains lines line → line.number < number

-- the carriers and indices of the conditions are the case's
pub record AreInRange (case : Case) (conds : List Cond) : Type 0 where
  pub ordered : (cond : Cond) → Contains conds cond → cond.lo ≤ cond.hi
  pub known : (cond : Cond) → Contains conds cond → cond.hi < slice_index_or (counts_of case) cond.carrier 0

abbrev pub numbers_of : List Line → List ℕ
numbers_of lines = map (λ line. line.number) lines

-- so are those of each line
pub record AreKnown (case : Case) (lines : List Line) : Type 0 where
  pub each : (line : Line) → Contains lines line → AreInRange case line.conds

-- every kind is among these
pub record HasEveryKind (kinds : List Kind) : Type 0 where
  pub each : (kind : Kind) → Contains kinds kind

-- each index of the box meets the path
pub record IsOnPath (case : Case) (path : List Cond) (b : ℕ → ℕ → Type 0) : Type 0 where
  pub each : IsWithin b (Meets case path)

-- the box lies within the closure of the path, which has no empty set
pub record IsClosed (case : Case) (path : List Cond) (b : ℕ → ℕ → Type 0) : Type 0 where
  pub within : IsWithin b (Closure case path)
  pub living : IsLiving case (Closure case path)
