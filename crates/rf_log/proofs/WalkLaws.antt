-- Nogood lines among lines with one more, and the tests of a walk.
use Rattle.std.proofs.Common.{◌≡◌, ℕ, zero, suc, List, ◌∷◌, ◌++◌, ◌⊎◌, inl, inr, [], Bool, true, false, refl, Some, Option, None}
use Rattle.rf_log.specs.declared.cond.Cond.{Cond}
use Rattle.rf_log.specs.declared.line.LogLine.{LogLine}
use Rattle.rf_log.specs.Hints.{conds_in, nogood_at}
use Rattle.rf_log.specs.declared.verdict.Cause.{Cause}
use Rattle.rf_log.specs.Walk.{unless}

-- what is found among the lines with one more
pub nogood-push : (lines : List LogLine) (line : LogLine) (n : ℕ) (conds : List Cond) → nogood_at (lines ++ line ∷ []) n ≡ Some conds
    → (nogood_at lines n ≡ Some conds) ⊎ (conds_in line ≡ Some conds)
nogood-push lines line zero conds e = cc
nogood-push [] line (suc zero) conds e = inr e
nogood-push [] line (suc (suc n)) conds e = cc
nogood-push (l ∷ lines) line (suc zero) conds e = inl e
nogood-push (l ∷ lines) line (suc (suc n)) conds e = nogood-push lines line (suc n) conds e

pub passed : (test : Bool) (reason : Cause) (rest : Option Cause) → unless test reason rest ≡ None → (test ≡ true) × (rest ≡ None)
passed true reason rest e = (refl, e)
passed false reason rest e = cc
