-- What is left of the channels that are not allowed.
use Rattle.std.proofs.Common.{subst, sym}
use Rattle.std.specs.Prelude.{◌≡◌, ℕ, ◌<◌, ◌≤◌, Bool, true, false, not, List, Option, Some, length, slice_index_or}
use Rattle.rf_log.specs.Case.{Case, is_allowed}
use Rattle.rf_log.specs.Box.{Box}
use Rattle.rf_domain.specs.Sets.{has}
use Rattle.rf_props.specs.Rests.{IsOfCase}

-- each index that is left to the carrier is allowed
pub record IsAllowedAt (case : Case) (has : Box) (c : ℕ) : Type 0 where
  pub each : (k : ℕ) → has c k ≡ true → is_allowed case c k ≡ true

pub record AreAllowedBelow (case : Case) (has : Box) (n : ℕ) : Type 0 where
  pub each : (c : ℕ) → c < n → IsAllowedAt case has c

-- n is the first place from `from` on with the flag, or the end
pub record IsFirstFlag (flags : List Bool) (from : ℕ) (wanted : Bool) (n : ℕ) : Type 0 where
  pub later : from ≤ n
  pub known : n ≤ length flags
  pub before : (k : ℕ) → from ≤ k → k < n → slice_index_or flags k false ≡ not wanted
  pub here : n < length flags → slice_index_or flags n false ≡ wanted

-- the indices from `from` up to `to` that are left are allowed
pub record IsRunDone (case : Case) (has : Box) (c from to : ℕ) : Type 0 where
  pub later : from < to
  pub allowed : (k : ℕ) → from ≤ k → k < to → has c k ≡ true → is_allowed case c k ≡ true

-- the sets, if there are any, are the case's, and each index in them is allowed
pub record KeepsAllowed (case : Case) (rest : Option (List (List Bool))) : Type 0 where
  pub sized : IsOfCase case rest
  pub allowed : (sets : List (List Bool)) → rest ≡ Some sets → AreAllowedBelow case (has sets) (length case.carriers)

-- with an equal case it is so too
pub allowed_last : {case other : Case} {rest : Option (List (List Bool))} → KeepsAllowed case rest → other ≡ case → KeepsAllowed other rest
allowed_last {case} {other} {rest} kept same = subst (λ (x : Case). KeepsAllowed x rest) (sym same) kept
