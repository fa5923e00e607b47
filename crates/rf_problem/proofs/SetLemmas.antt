-- Sets of numbers as lists.
use Rattle.std.proofs.Common.{◌≡◌, ℕ, List, [], ◌∷◌, Bool, true, ◌&&◌, refl, ap, inl, inr, arith}
use Rattle.std.specs.List.{list_all, list_any, filter}
use Rattle.std.proofs.lemmas.Bool.{cases_Bool, cases_eq}
use Rattle.std.proofs.lemmas.Bool.Decides.{nat_tests}
use Rattle.rf_log.specs.Case.{is_among}
use Rattle.rf_log.proofs.CaseLaws.{among_all}

pub all_from : (q : ℕ → Bool) (xs : List ℕ) → ((c : ℕ) → is_among xs c ≡ true → q c ≡ true) → list_all q xs ≡ true
all_from q [] each = refl
all_from q (x ∷ xs) each =
    let here : q x ≡ true = each x (grind (arith, nat_tests)) in
    let rest : list_all q xs ≡ true = all_from q xs (λ c among. each c (grind (arith, nat_tests))) in
    grind (arith, nat_tests)

-- what holds of all of a set holds of all of a part of it
pub all_part : (q : ℕ → Bool) (xs ys : List ℕ) → ((c : ℕ) → is_among ys c ≡ true → is_among xs c ≡ true) → list_all q xs ≡ true → list_all q ys ≡ true
all_part q xs ys part all = all_from q ys (λ c among. among_all q xs c all (part c among))

pub any_weaker : {X : Type 0} (f g : X → Bool) (xs : List X) → ((x : X) → f x ≡ true → g x ≡ true) → list_any f xs ≡ true → list_any g xs ≡ true
any_weaker f g [] weaker any = any
any_weaker f g (x ∷ xs) weaker any =
    elim (cases_Bool (f x)) [
      | inl e ↦ let here : g x ≡ true = weaker x e in grind (arith, nat_tests)
      | inr e ↦ let rest : list_any g xs ≡ true = any_weaker f g xs weaker (grind (arith, nat_tests)) in grind (arith, nat_tests)
    ]

pub among_filter : (q : ℕ → Bool) (xs : List ℕ) (c : ℕ) → is_among (filter q xs) c ≡ (is_among xs c && q c)
among_filter q [] c = refl
among_filter q (x ∷ xs) c =
    let rest : is_among (filter q xs) c ≡ (is_among xs c && q c) = among_filter q xs c in
    elim (cases_eq x c) [
      | inl e ↦ let same : q x ≡ q c = ap q e in grind (arith, nat_tests)
      | inr e ↦ grind (arith, nat_tests)
    ]
