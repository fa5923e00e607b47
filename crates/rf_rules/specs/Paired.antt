-- Which carriers can take the last role but one, looked up by the form over the roles before it.
use Rattle.std.specs.Prelude.{◌≡◌, ◌<◌, ◌≤◌, ◌+◌, ◌-◌, ◌/◌, ◌%◌, ◌+ℤ◌, ◌*ℤ◌, ℕ, ℤ, pos, unsigned_abs, Bool, true, is_some, length, slice_index_or}
use Rattle.rf_terms.specs.Kinds.{coefficients_of, roles_of}
use Rattle.rf_zones.specs.Masks.{has_bit}
use Rattle.rf_show.specs.Query.{asked}
use Rattle.rf_rules.specs.Instances.{at_in, khz_in}
use Rattle.rf_rules.specs.Searches.{lane_of}
use Rattle.rf_rules.specs.declared.pairings.Pairings.{Pairings}
use Rattle.rf_rules.specs.declared.search.Search.{Search}

-- cells have a width, and there is one of them
pub record IsPairings (p : Pairings) : Type 0 where
  pub wide : 0 < p.width
  pub some : 0 < length p.cells.items

-- the mask of a cell; the cells go round
abbrev pub cell : Pairings → ℕ → ℕ
cell p i = slice_index_or p.cells.items (i % length p.cells.items) 0

-- the mask of the cell in which the form over the first roles lies
abbrev pub mask_near : Pairings → ℤ → ℕ
mask_near p product = cell p (unsigned_abs (product +ℤ pos 640000000) / p.width + 1)

-- a carrier is found wherever the whole form is less than a width, with the last two roles adding a value
abbrev pub Covers : Pairings → ℕ → ℤ → Type 0
Covers p carrier value = (product : ℤ) → unsigned_abs product ≤ 640000000 → unsigned_abs (product +ℤ value) < p.width → has_bit (mask_near p product) carrier ≡ true

-- what two carriers add in the last two roles
abbrev pub pair_value : Search → ℕ → ℕ → ℤ
pair_value s c d = (slice_index_or (coefficients_of s.kind) (roles_of s.kind - 2) (pos 0) *ℤ pos (khz_in s.ats.now c)) +ℤ (lane_of s.show.now s.ats.now s.kind d).term

-- a carrier has a frequency
abbrev pub stands : Search → ℕ → Bool
stands s c = is_some (at_in s.ats.now c)

-- a width is no less than any margin, and each pair of carriers that have frequencies is covered
pub record HasPairs (p : Pairings) (s : Search) : Type 0 where
  pub form : IsPairings p
  pub wide : (c : ℕ) → c < length s.ats.now → asked s.show.now s.kind c ≤ p.width
  pub pairs : (c d : ℕ) → c < length s.ats.now → d < length s.ats.now → stands s c ≡ true → stands s d ≡ true → Covers p c (pair_value s c d)
