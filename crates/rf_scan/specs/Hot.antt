use Rattle.std.specs.Prelude.{ℕ, Bool, List, [], ◌∷◌, map, int_le, nat_eq, nat_lt, if◌then◌else◌}
use Rattle.std.specs.List.{filter}
use Rattle.rf_base.specs.declared.decimal.Decimal.{Decimal}
use Rattle.rf_scan.specs.declared.point.Point.{Point}

-- whether the level of a point is at or above the threshold
abbrev pub is_hot : Decimal → Point → Bool
is_hot threshold point = int_le threshold.0 point.level.0

-- the frequencies of the hot points, in the order of the file
abbrev pub hot_frequencies : Decimal → List Point → List ℕ
hot_frequencies threshold points = map (λ p. p.millihertz) (filter (is_hot threshold) points)

-- a number put into a rising list, once
abbrev pub put_in : ℕ → List ℕ → List ℕ
put_in x [] = x ∷ []
put_in x (y ∷ ys) = if nat_lt x y then x ∷ y ∷ ys else if nat_eq x y then y ∷ ys else y ∷ put_in x ys

-- the numbers of a list, rising and distinct
abbrev pub rising : List ℕ → List ℕ
rising [] = []
rising (x ∷ xs) = put_in x (rising xs)

-- The hot points of a scan: the frequencies of the points that are hot, rising and distinct.
unfoldable pub hot_of : Decimal → List Point → List ℕ
hot_of threshold points = rising (hot_frequencies threshold points)
