-- Tests: both, one of them, and what follows where they hold.
use Rattle.std.proofs.Common.{◌≡◌, Bool, true, false, not, ◌||◌, refl, sym, ◌∙◌, ap, ◌&&◌, true≢false}
use mathlib.Core.Bool.{and-false}

pub implies : (x y : Bool) → (x ≡ true → y ≡ true) → (not x || y) ≡ true
implies true y f = f refl
implies false y f = refl

-- of two tests, the second holds where the first does
pub implied : (x y : Bool) → (not x || y) ≡ true → x ≡ true → y ≡ true
implied true y e h = e
implied false y e h = absurd (true≢false (sym h))

pub or_swap : (a b c : Bool) → (a || (b || c)) ≡ (b || (a || c))
or_swap true true c = refl
or_swap true false c = refl
or_swap false b c = refl

pub clash : {b : Bool} → b ≡ true → b ≡ false → ⊥
clash yes_ no_ = true≢false (sym yes_ ∙ no_)

pub or_more : (a b c : Bool) → (a || b) ≡ true → (b ≡ true → c ≡ true) → (a || c) ≡ true
or_more true b c h k = refl
or_more false b c h k = k h

pub not_is : (a b : Bool) → not a ≡ b → a ≡ not b
not_is true b e = ap not e
not_is false b e = ap not e

pub or_joined : (a b c : Bool) → (a || (b || c)) ≡ ((a || b) || c)
or_joined true b c = refl
or_joined false b c = refl

pub and_cross : (a b x y z : Bool) → z ≡ (x && y) → ((a && b) && z) ≡ ((a && x) && (b && y))
and_cross true true x y z e = e
and_cross true false x y z e = sym (and-false x)
and_cross false b x y z e = refl

-- two tests that pass together are the same
pub same_test : (a b : Bool) → (a ≡ true → b ≡ true) → (b ≡ true → a ≡ true) → a ≡ b
same_test true b there back = sym (there refl)
same_test false true there back = back refl
same_test false false there back = refl
