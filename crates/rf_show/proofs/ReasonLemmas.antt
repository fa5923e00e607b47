use Rattle.std.proofs.Common.{◌≡◌, Bool, true, false, cond, List, [], ◌∷◌, Some, None, Ok, Option, refl}
use Rattle.rf_show.specs.declared.refusal.Refusal.{Refusal}
use Rattle.rf_show.specs.Reasons.{first_reason, ok_unless}

-- none of these reasons holds
abbrev pub NoneHolds : List (Bool × Refusal) → Type 0
NoneHolds [] = Unit {0}
NoneHolds (r ∷ rs) = (r.0 ≡ false) × NoneHolds rs

none_cond : (b : Bool) (x : Refusal) (rest : Option Refusal) → cond b (Some x) rest ≡ None → (b ≡ false) × (rest ≡ None)
none_cond true x rest h = cc
none_cond false x rest h = (refl, h)

pub none_holds : (rs : List (Bool × Refusal)) → first_reason rs ≡ None → NoneHolds rs
none_holds [] h = tt
none_holds (r ∷ rs) h =
    let left = none_cond r.0 r.1 (first_reason rs) h in
    (left.0, none_holds rs left.1)

pub none_refused : (o : Option Refusal) (x : Unit {0}) → ok_unless o ≡ Ok x → o ≡ None
none_refused None x h = refl
none_refused (Some reason) x h = cc
