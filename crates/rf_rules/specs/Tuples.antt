-- Lists of carriers.
use Rattle.std.specs.Prelude.{ℕ, Bool, filter, suc, zero, List, [], ◌∷◌, ◌++◌, map}
use Rattle.std.specs.List.{flat_map}

-- the numbers below n, in order
unfoldable pub upto : ℕ → List ℕ
upto zero = []
upto (suc n) = upto n ++ n ∷ []

-- all lists of k of the elements, by the first, then by the second, and so on
unfoldable pub tuples : {X : Type 0} → ℕ → List X → List (List X)
tuples zero xs = [] ∷ []
tuples (suc k) xs = flat_map (λ x. map (λ t. x ∷ t) (tuples k xs)) xs

-- what f makes of the lists that begin with t, go on as one of us, and pass
unfoldable pub found_in : {Y : Type 0} → (List ℕ → Y) → (List ℕ → Bool) → List ℕ → List (List ℕ) → List Y
found_in f p t us = map f (filter p (map (λ u. t ++ u) us))
