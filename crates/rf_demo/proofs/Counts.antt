-- How many lines are drawn.
use Rattle.std.proofs.Common.{◌≡◌, ◌<◌, ◌-◌, ℕ, List, [], ◌∷◌, ◌++◌, None, drop, length, refl, ap, zero, suc, arith, slice_get}
use Rattle.rf_demo.specs.Lines.{drawn_lines, opening, turn_from}

pub drawn_many : (count state : ℕ) → length (drawn_lines count state) ≡ count
unfolding drawn_lines
drawn_many zero state = refl
drawn_many (suc count) state = ap suc (drawn_many count (turn_from state).state)

pub drawn_none : (state : ℕ) → drawn_lines 0 state ≡ []
unfolding drawn_lines
drawn_none state = refl

pub drawn_more : (count state : ℕ) → 0 < count → drawn_lines count state ≡ (turn_from state).line ∷ drawn_lines (count - 1) (turn_from state).state
unfolding drawn_lines
drawn_more zero state some = absurd (omega (arith, some))
drawn_more (suc count) state some = let e : suc count - 1 ≡ count = omega arith in rw e refl

drop_none : (place : ℕ) → drop {A = List ℕ} place [] ≡ []
drop_none zero = refl
drop_none (suc place) = refl

-- the opening was given
pub opened : (place : ℕ) → slice_get opening place ≡ None → drop place opening ≡ []
opened zero none = cc
opened (suc zero) none = cc
opened (suc (suc zero)) none = cc
opened (suc (suc (suc place))) none = drop_none place

-- nothing is left
pub drawn_out : (place left state : ℕ) → slice_get opening place ≡ None → left ≡ 0 → drop place opening ++ drawn_lines left state ≡ []
drawn_out place left state none is = rw (opened place none, is) (drawn_none state)

-- a line is drawn
pub drawn_next : (place left state : ℕ) → slice_get opening place ≡ None → 0 < left →
    drop place opening ++ drawn_lines left state ≡ (turn_from state).line ∷ (drop place opening ++ drawn_lines (left - 1) (turn_from state).state)
drawn_next place left state none some = rw (opened place none) (drawn_more left state some)
