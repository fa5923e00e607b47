-- Sets of carriers, each as a rising list.
use Rattle.std.specs.Prelude.{ℕ, zero, suc, Bool, ◌&&◌, nat_le, List, [], ◌∷◌, ◌++◌, filter, length, map}
use Rattle.std.specs.List.{range_with_len}

-- the lists of one to so many elements of a list, in its order; first those that begin with its first element
unfoldable pub sublists : ℕ → List ℕ → List (List ℕ)
sublists zero xs = []
sublists (suc most) [] = []
sublists (suc most) (x ∷ xs) = (x ∷ []) ∷ (map (λ set. x ∷ set) (sublists most xs) ++ sublists (suc most) xs)

-- the sets of two to four of so many carriers that pass a test, in lexicographic order
abbrev pub sets_that : (List ℕ → Bool) → ℕ → List (List ℕ)
sets_that test count = filter (λ set. nat_le 2 (length set) && test set) (sublists 4 (range_with_len 0 count))
