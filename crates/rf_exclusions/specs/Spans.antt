-- Sets of numbers as lists of closed intervals.
use Rattle.std.specs.Prelude.{◌≡◌, ℕ, ◌+◌, ◌-◌, ◌≤◌, List, [], ◌∷◌, ◌++◌, Bool, true, false, ◌&&◌, nat_le, nat_lt, min, max, if◌then◌else◌}
use Rattle.std.specs.List.{list_any, flat_map}
use Rattle.rf_exclusions.specs.declared.span.Span.{Span}

abbrev pub between : ℕ → ℕ → ℕ → Bool
between lo hi x = nat_le lo x && nat_le x hi

abbrev pub has_in : List Span → ℕ → Bool
has_in spans x = list_any (λ span. between span.lo span.hi x) spans

-- in order, not empty, with a number between each and the next, from low on
abbrev pub AreApartFrom : ℕ → List Span → Type 0
AreApartFrom low [] = Unit {0}
AreApartFrom low (span ∷ spans) = (low ≤ span.lo) × (span.lo ≤ span.hi) × AreApartFrom (span.hi + 2) spans

abbrev pub AreApart : List Span → Type 0
AreApart spans = AreApartFrom 0 spans

abbrev pub IsEmptySet : List Span → Type 0
IsEmptySet spans = (x : ℕ) → has_in spans x ≡ false

-- x is the one number of the set
abbrev pub IsOnly : List Span → ℕ → Type 0
IsOnly spans x = (has_in spans x ≡ true) × ((y : ℕ) → has_in spans y ≡ true → y ≡ x)

-- each number of the set is from lo to hi
abbrev pub IsWithin : ℕ → ℕ → List Span → Type 0
IsWithin lo hi spans = (x : ℕ) → has_in spans x ≡ true → between lo hi x ≡ true

-- no number of the set is from lo to hi
abbrev pub Misses : ℕ → ℕ → List Span → Type 0
Misses lo hi spans = (x : ℕ) → has_in spans x ≡ true → between lo hi x ≡ false

abbrev pub joined : Span → Span → Span
joined a b = record { lo = min a.lo b.lo; hi = max a.hi b.hi }

-- the intervals with one more, which takes in those that it meets or touches
abbrev pub with_span : Span → List Span → List Span
with_span span [] = span ∷ []
with_span span (next ∷ spans) =
    if nat_lt (next.hi + 1) span.lo then next ∷ with_span span spans
    else (if nat_lt (span.hi + 1) next.lo then span ∷ next ∷ spans else with_span (joined next span) spans)

-- what is left of an interval on the two sides of another
abbrev pub left_of : Span → Span → List Span
left_of gone span = if nat_lt span.lo gone.lo then record { lo = span.lo; hi = min span.hi (gone.lo - 1) } ∷ [] else []

abbrev pub right_of : Span → Span → List Span
right_of gone span = if nat_lt gone.hi span.hi then record { lo = max span.lo (gone.hi + 1); hi = span.hi } ∷ [] else []

abbrev pub without_span : Span → List Span → List Span
without_span gone = flat_map (λ span. left_of gone span ++ right_of gone span)
