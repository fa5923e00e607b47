use Rattle.std.specs.Prelude.{ℕ, List, [], ◌∷◌, ◌+◌, ◌≤◌, ◌&&◌, Option, Some, None, nat_le, suc, zero, if◌then◌else◌}
use Rattle.rf_base.specs.Khz.{IsKhz, is_khz}

-- the frequencies `from + i*step` up to `to`, in kilohertz
pub record Span : Type 0 where
  pub from : ℕ
  pub to : ℕ
  pub step : ℕ

abbrev pub span : ℕ → ℕ → ℕ → Span
span from to step = record { from = from; to = to; step = step }

-- what a range keeps
pub record IsRange (r : Span) : Type 0 where
  pub low : IsKhz r.from
  pub high : IsKhz r.to
  pub stride : IsKhz r.step
  pub ordered : r.from ≤ r.to

-- f, f + step, f + 2*step and so on up to `to`, but no more than n of them
unfoldable pub climb : ℕ → ℕ → ℕ → ℕ → List ℕ
climb zero f to step = []
climb (suc n) f to step = if nat_le f to then f ∷ climb n (f + step) to step else []

-- The frequencies of a range. They differ and are at least 1, so there are at most `to` of them.
unfoldable pub frequencies : Span → List ℕ
frequencies r = climb r.to r.from r.to r.step

-- the range with these numbers, where they make one
abbrev pub range_of : ℕ → ℕ → ℕ → Option Span
range_of from to step =
    if is_khz from && is_khz to && is_khz step && nat_le from to then Some (span from to step) else None
