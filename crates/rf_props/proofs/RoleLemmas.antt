-- Roles in an array of four.
use Rattle.std.proofs.Common.{◌≡◌, ℕ, zero, suc, ◌+◌, ◌<◌, ◌≤◌, List, [], ◌∷◌, ◌++◌, length, take, drop, get_or, ap, arith, refl, ◌∙◌, insert, ◌-◌}
use borrow.Rule.Slice.PartMut.{put_mid}

pub record IsPadded (roles : List ℕ) (n : ℕ) (all : List ℕ) : Type 0 where
  pub size : length all ≡ 4
  pub same : take n all ≡ take n roles
  pub zero : (i : ℕ) → n ≤ i → get_or all i 0 ≡ 0

-- the others before the place, the target, and the other others, written into an array of targets
written : (xs : List ℕ) (p t : ℕ) → p ≤ length xs → length xs < 4
    → take (length xs + 1) (put_mid (p + 1) (length xs + 1 - (p + 1)) (take p xs ++ drop p (t ∷ t ∷ t ∷ t ∷ [])) (drop p xs)) ≡ insert xs p t
written [] zero t low few = refl
written [] (suc p) t low few = absurd (omega arith)
written (a ∷ []) zero t low few = refl
written (a ∷ []) (suc zero) t low few = refl
written (a ∷ []) (suc (suc p)) t low few = absurd (omega arith)
written (a ∷ b ∷ []) zero t low few = refl
written (a ∷ b ∷ []) (suc zero) t low few = refl
written (a ∷ b ∷ []) (suc (suc zero)) t low few = refl
written (a ∷ b ∷ []) (suc (suc (suc p))) t low few = absurd (omega arith)
written (a ∷ b ∷ c ∷ []) zero t low few = refl
written (a ∷ b ∷ c ∷ []) (suc zero) t low few = refl
written (a ∷ b ∷ c ∷ []) (suc (suc zero)) t low few = refl
written (a ∷ b ∷ c ∷ []) (suc (suc (suc zero))) t low few = refl
written (a ∷ b ∷ c ∷ []) (suc (suc (suc (suc p)))) t low few = absurd (omega arith)
written (a ∷ b ∷ c ∷ d ∷ xs) p t low few = absurd (omega arith)

pub written_is : (xs a b : List ℕ) (p t : ℕ) → p ≤ length xs → length xs < 4 → a ≡ take p xs → b ≡ drop p xs
    → take (length xs + 1) (put_mid (p + 1) (length xs + 1 - (p + 1)) (a ++ drop p (t ∷ t ∷ t ∷ t ∷ [])) b) ≡ insert xs p t
written_is xs a b p t low few front back =
    ap (λ ys. take (length xs + 1) (put_mid (p + 1) (length xs + 1 - (p + 1)) (ys ++ drop p (t ∷ t ∷ t ∷ t ∷ [])) b)) front
    ∙ ap (λ ys. take (length xs + 1) (put_mid (p + 1) (length xs + 1 - (p + 1)) (take p xs ++ drop p (t ∷ t ∷ t ∷ t ∷ [])) ys)) back
    ∙ written xs p t low few
