-- Two lists that stand in one order, as one list.
use Rattle.std.specs.Prelude.{ℕ, Bool, false, ◌&&◌, ◌||◌, ◌==◌, nat_lt, List, [], ◌∷◌, if◌then◌else◌}

-- the elements of a list up to x, x, and what f makes of those behind it
abbrev pub up_to : {X : Type 0} → (X → X → Bool) → X → (List X → List X) → List X → List X
up_to before x f [] = x ∷ f []
up_to before x f (y ∷ ys) = if before y x then y ∷ up_to before x f ys else x ∷ f (y ∷ ys)

-- at each step the front element of the second list where it stands before that of the first, and otherwise the other
unfoldable pub merge : {X : Type 0} → (X → X → Bool) → List X → List X → List X
merge before [] ys = ys
merge before (x ∷ xs) ys = up_to before x (merge before xs) ys

-- the first number in which two lists differ is less in the first
abbrev pub stands_before : List ℕ → List ℕ → Bool
stands_before [] t = false
stands_before (a ∷ s) [] = false
stands_before (a ∷ s) (b ∷ t) = nat_lt a b || (a == b) && stands_before s t

-- the elements of a list up to the first before which y stands, and those from there on
abbrev pub ahead : {X : Type 0} → (X → X → Bool) → X → List X → List X
ahead before y [] = []
ahead before y (x ∷ xs) = if before y x then [] else x ∷ ahead before y xs

abbrev pub behind : {X : Type 0} → (X → X → Bool) → X → List X → List X
behind before y [] = []
behind before y (x ∷ xs) = if before y x then x ∷ xs else behind before y xs
