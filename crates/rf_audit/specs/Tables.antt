-- What an audit asks of a show once.
use Rattle.std.specs.Prelude.{◌≡◌, ℕ, ℤ, pos, ◌+ℤ◌, ◌*ℤ◌, unsigned_abs, ◌<◌, ◌≤◌, ◌↔◌, List, Bool, length, map, slice_index, slice_index_or}
use Rattle.std.specs.List.Sorted.{IsStrictlyIncreasing}
use Rattle.rf_terms.specs.Kinds.{kinds}
use Rattle.rf_terms.specs.Forms.{AreFrequencies}
use Rattle.rf_log.specs.Case.{Case, carrier_of, count_of, is_allowed, asked_by}
use Rattle.rf_audit.specs.Left.{has}
use Rattle.rf_audit.specs.declared.table.Row.{Row}

-- what a carrier asks for each kind
abbrev pub asks_of : Case → ℕ → List ℕ
asks_of case c = map (λ kind. asked_by case kind c) kinds

-- the row of a carrier
pub record IsRow (case : Case) (c : ℕ) (freqs : List ℕ) (allowed : List Bool) (asks : List ℕ) : Type 0 where
  pub channels : freqs ≡ (carrier_of case c).freqs
  pub small : AreFrequencies freqs
  pub rising : IsStrictlyIncreasing freqs
  pub few : length freqs ≤ 65536
  pub full : length allowed ≡ count_of case c
  pub allows : (k : ℕ) → k < count_of case c → has allowed k ≡ is_allowed case c k
  pub margins : asks ≡ asks_of case c

-- the carrier asks what its leader asks, which leads itself
pub record IsLed (case : Case) (leaders : List ℕ) (c : ℕ) : Type 0 where
  pub low : slice_index leaders c ≤ c
  pub itself : slice_index leaders (slice_index leaders c) ≡ slice_index leaders c
  pub freqs : (carrier_of case (slice_index leaders c)).freqs ≡ (carrier_of case c).freqs
  pub asks : asks_of case (slice_index leaders c) ≡ asks_of case c

abbrev pub IsTableRow : Case → List Row → ℕ → Type 0
IsTableRow case rows c = (row : Row) → row ≡ slice_index_or rows c row → IsRow case c row.freqs.items row.allowed row.asks.items

pub record IsTable (case : Case) (rows : List Row) (leaders : List ℕ) : Type 0 where
  pub full : length rows ≡ length case.carriers
  pub few : length rows ≤ 96
  pub all_led : length leaders ≡ length rows
  pub row : (c : ℕ) → c < length rows → IsTableRow case rows c
  pub led : (c : ℕ) → c < length rows → IsLed case leaders c

-- the indices at which a form lies nearer to 0 than the margin are those from the first number to below the second
abbrev pub IsWindow : List ℕ → ℤ → ℤ → ℕ → ℕ × ℕ → Type 0
IsWindow freqs a rest margin window = (k : ℕ) → k < length freqs
    → (unsigned_abs (rest +ℤ (a *ℤ pos (slice_index freqs k))) < margin) ↔ ((window.0 ≤ k) × (k < window.1))

-- the rows have the same frequencies and ask the same
abbrev pub AreAlike : Row → Row → Type 0
AreAlike one other = (one.freqs.items ≡ other.freqs.items) × (one.asks.items ≡ other.asks.items)
