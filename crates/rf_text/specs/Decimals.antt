-- How a decimal is read and written.
use Rattle.std.specs.Prelude.{ℕ, zero, suc, ℤ, pos, negsuc, nat_abs, List, [], ◌∷◌, ◌++◌, ◌+◌, ◌/◌, ◌%◌, ◌^◌, ◌==◌, Option, option_map, if◌then◌else◌, codes, decimal}
use Rattle.rf_base.specs.declared.decimal.Decimal.{Decimal}
use Rattle.rf_base.specs.Decimal.{decimal_of}

-- the decimal that a word writes
abbrev pub decimal_in : List ℕ → Option Decimal
decimal_in word = option_map (λ n. record { 0 = n }) (decimal_of word)

-- the digits of a fraction that has so many places, without zeros at the end
unfoldable pub places : ℕ → ℕ → List ℕ
places zero fraction = []
places (suc count) fraction =
    if fraction == 0 then [] else (48 + fraction / 10 ^ count) ∷ places count (fraction % 10 ^ count)

-- the point and the digits after it, where the fraction is not zero
abbrev pub fraction_text : ℕ → List ℕ
fraction_text fraction = if fraction == 0 then [] else 46 ∷ places 9 fraction

-- so many billionths
abbrev pub billionths_text : ℕ → List ℕ
billionths_text n = decimal (n / 1_000_000_000) ++ fraction_text (n % 1_000_000_000)

abbrev pub sign_text : ℤ → List ℕ
sign_text (pos n) = []
sign_text (negsuc n) = codes "-"

-- the printed form of a decimal: the sign where it is negative, the whole part, and the fraction
unfoldable pub decimal_text : ℤ → List ℕ
decimal_text n = sign_text n ++ billionths_text (nat_abs n)
