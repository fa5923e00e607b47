-- What is seen of what is left.
use Rattle.std.specs.Prelude.{◌≡◌, ℕ, ◌<◌, List, true, Option, Some, None, length}
use Rattle.rf_log.specs.Case.{Case, count_of}
use Rattle.rf_log.specs.Box.{Box}
use Rattle.rf_log.specs.Relations.{members, IsLiving}
use Rattle.rf_audit.specs.Left.{fixed_at}
use Rattle.rf_audit.specs.declared.closing.Look.{Look}
use Rattle.rf_audit.specs.declared.closing.Look.TheVariants.{Dead, Fixed, Settled}

-- the carrier was not fixed, and has just this index left
pub record IsNewlyFixed (case : Case) (fixed : List (Option ℕ)) (box : Box) (c k : ℕ) : Type 0 where
  pub known : c < length case.carriers
  pub was : fixed_at fixed c ≡ None
  pub index : k < count_of case c
  pub here : box c k ≡ true
  pub only : (j : ℕ) → box c j ≡ true → j ≡ k

-- the carrier has two indices left
pub record HasTwo (box : Box) (c : ℕ) : Type 0 where
  pub one : ℕ
  pub other : ℕ
  pub here : box c one ≡ true
  pub there : box c other ≡ true
  pub differ : one ≡ other → ⊥

abbrev pub Sees : Case → List (Option ℕ) → Box → Look → Type 0
Sees case fixed box Dead = ((c k j : ℕ) → fixed_at fixed c ≡ Some k → box c j ≡ true → j ≡ k) → IsLiving case (members box) → ⊥
Sees case fixed box (Fixed c k) = IsNewlyFixed case fixed box c k
Sees case fixed box Settled = IsLiving case (members box) × ((c : ℕ) → c < length case.carriers → fixed_at fixed c ≡ None → HasTwo box c)
