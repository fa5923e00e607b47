-- How many carriers are not fixed.
use Rattle.std.proofs.Common.{◌≡◌, ◌<◌, ◌+◌, ℕ, zero, suc, List, [], ◌∷◌, length, get_or, set, arith, Option, Some, None}

abbrev pub free_count : List (Option ℕ) → ℕ
free_count [] = 0
free_count (None ∷ fixed) = 1 + free_count fixed
free_count (Some k ∷ fixed) = free_count fixed

pub free-fewer : (fixed : List (Option ℕ)) (c at : ℕ) → c < length fixed → get_or fixed c None ≡ None → free_count (set fixed c (Some at)) < free_count fixed
free-fewer [] c at low none = absurd (omega arith)
free-fewer (None ∷ fixed) zero at low none = omega arith
free-fewer (Some k ∷ fixed) zero at low none = cc
free-fewer (None ∷ fixed) (suc c) at low none = omega (arith, free-fewer fixed c at (omega arith) none)
free-fewer (Some k ∷ fixed) (suc c) at low none = free-fewer fixed c at (omega arith) none
