-- The same lines with the same names, over two lists of names.
use Rattle.std.specs.Prelude.{◌≡◌, ℕ, ◌<◌, List, length, take}
use Rattle.std.specs.List.{AllZip}
use Rattle.rf_terms.specs.Kinds.{roles_of}
use Rattle.rf_log.specs.declared.cond.Cond.{Cond}
use Rattle.rf_log.specs.declared.hint.Hint.{Hint}
use Rattle.rf_log.specs.declared.hint.Hint.TheVariants.{Earlier, Ban, Rule}
use Rattle.rf_log.specs.declared.line.LogLine.{LogLine}
use Rattle.rf_log.specs.declared.line.LogLine.TheVariants.{Nogood, Branch, Up}
use Rattle.rf_log.specs.LineTexts.{name_at}

-- a carrier among the names, and a place among the others, of the same name
pub record IsSameCarrier (names others : List (List ℕ)) (carrier place : ℕ) : Type 0 where
  pub known : place < length others
  pub name : name_at names carrier ≡ name_at others place

-- the same condition
abbrev pub IsSameCond : List (List ℕ) → List (List ℕ) → Cond → Cond → Type 0
IsSameCond names others cond read = (place : ℕ) × IsSameCarrier names others cond.carrier place × (read ≡ record cond { carrier = place })

-- the same hint; of a rule the roles that its kind has
abbrev pub IsSameHint : List (List ℕ) → List (List ℕ) → Hint → Hint → Type 0
IsSameHint names others (Earlier line) read = read ≡ Earlier line
IsSameHint names others (Ban carrier lo hi) read = (place : ℕ) × IsSameCarrier names others carrier place × (read ≡ Ban place lo hi)
IsSameHint names others (Rule kind roles target lo hi) read =
    (places : List ℕ) × AllZip (IsSameCarrier names others) (take (roles_of kind) roles) (take (roles_of kind) places) × (read ≡ Rule kind places target lo hi)

-- the same line
abbrev pub IsSameLine : List (List ℕ) → List (List ℕ) → LogLine → LogLine → Type 0
IsSameLine names others (Nogood conds hints) read =
    (these : List Cond) × (those : List Hint) × AllZip (IsSameCond names others) conds these × AllZip (IsSameHint names others) hints those × (read ≡ Nogood these those)
IsSameLine names others (Branch cut carrier at) read = (place : ℕ) × IsSameCarrier names others carrier place × (read ≡ Branch cut place at)
IsSameLine names others (Up line) read = read ≡ Up line
