-- What the lines of a log must keep before their hints are applied.
use Rattle.std.specs.Prelude.{◌≡◌, ℕ, ◌<◌, ◌≤◌, List, [], ◌∷◌, Option, Some, None, length, take, slice_index}
use Rattle.std.specs.List.{All}
use Rattle.rf_terms.specs.Kinds.{roles_of}
use Rattle.rf_log.specs.declared.cond.Cond.{Cond}
use Rattle.rf_log.specs.declared.hint.Hint.{Hint}
use Rattle.rf_log.specs.declared.hint.Hint.TheVariants.{Earlier, Ban, Rule}
use Rattle.rf_log.specs.declared.line.LogLine.{LogLine}
use Rattle.rf_log.specs.declared.line.LogLine.TheVariants.{Nogood, Branch, Up}
use Rattle.rf_log.specs.Case.{Case, count_of}
use Rattle.rf_log.specs.Hints.{nogood_at}
use Rattle.rf_checker.specs.Boxes.{Fits}

-- the one condition of a list, where it has at most one
abbrev pub single : List Cond → Option (Option Cond)
single [] = Some None
single (cond ∷ []) = Some (Some cond)
single (first ∷ second ∷ rest) = None

-- the conditions of each nogood line are on the case's indices
abbrev pub LinesFit : Case → List LogLine → Type 0
LinesFit case lines = (n : ℕ) (conds : List Cond) → nogood_at lines n ≡ Some conds → All (Fits case) conds

pub record RangeFits (case : Case) (c lo hi : ℕ) : Type 0 where
  pub known : c < length case.carriers
  pub rising : lo ≤ hi
  pub index : hi < count_of case c

pub record RuleFits (case : Case) (roles : List ℕ) (target lo hi : ℕ) : Type 0 where
  pub known : All (λ c. c < length case.carriers) roles
  pub place : target < length roles
  pub range : RangeFits case (slice_index roles target) lo hi

abbrev pub HintFits : Case → Hint → Type 0
HintFits case (Earlier line) = Unit {0}
HintFits case (Ban carrier lo hi) = RangeFits case carrier lo hi
HintFits case (Rule kind roles target lo hi) = RuleFits case (take (roles_of kind) roles) target lo hi

-- the target of a rule hint is one of its roles
abbrev pub HasTarget : Hint → Type 0
HasTarget (Earlier line) = Unit {0}
HasTarget (Ban carrier lo hi) = Unit {0}
HasTarget (Rule kind roles target lo hi) = (target < roles_of kind) × (length roles ≡ 4)

abbrev pub HasTargets : LogLine → Type 0
HasTargets (Nogood conds hints) = All HasTarget hints
HasTargets (Branch cut carrier at) = Unit {0}
HasTargets (Up line) = Unit {0}

-- the carriers of a hint are carriers of the case
abbrev pub HintKnown : Case → Hint → Type 0
HintKnown case (Earlier line) = Unit {0}
HintKnown case (Ban carrier lo hi) = carrier < length case.carriers
HintKnown case (Rule kind roles target lo hi) = All (λ c. c < length case.carriers) (take (roles_of kind) roles)

-- the decisions of an open path are on the case's indices
abbrev pub TreeFits : Case → Option (List Cond) → Type 0
TreeFits case None = Unit {0}
TreeFits case (Some path) = All (Fits case) path
