-- The carriers of a show as those of a problem.
use Rattle.std.specs.Prelude.{◌≡◌, ◌<◌, ℕ, List, length, map, slice_index_or}
use Rattle.std.specs.List.{list_any, range_with_len}
use Rattle.rf_zones.specs.Masks.{has_bit, has_bits}
use Rattle.rf_zones.specs.Slices.{share_minute}
use Rattle.rf_problem.specs.Problem.{CarrierData, ProblemData, mask_of, no_data, with_carrier}
use Rattle.rf_show.specs.Show.{ShowData}
use Rattle.rf_show.specs.Query.{is_allowed, meet_at}
use Rattle.rf_show.specs.Case.{channels_of, margins_of, spacing_of}

-- a carrier of the problem, with these masks of those with which it may be together
abbrev pub carrier_with : ShowData → ℕ → ℕ → ℕ → CarrierData
carrier_with show c heard reach = record {
  freqs = channels_of show c;
  allowed = map (is_allowed show c) (range_with_len 0 (length (channels_of show c)));
  spacing = spacing_of show c;
  margins = margins_of show c;
  heard = heard;
  reach = reach;
}

-- a mask has the carriers that may be together with a carrier in a set of so many
abbrev pub Meets : ShowData → ℕ → ℕ → ℕ → Type 0
Meets show size c mask = (b : ℕ) → b < length show.carriers → has_bit mask b ≡ meet_at size show.zones show.carriers c b

-- the new problem has the carrier after those of the old one
pub record IsAdded (show : ShowData) (c : ℕ) (old new : ProblemData) : Type 0 where
  pub heard : ℕ
  pub reach : ℕ
  pub added : new ≡ with_carrier old (carrier_with show c heard reach)
  pub meets : (size : ℕ) → Meets show size c (mask_of size (carrier_with show c heard reach))

-- a carrier of the problem is that of the show
pub record IsOf (show : ShowData) (c : ℕ) (carrier : CarrierData) : Type 0 where
  pub same : carrier ≡ carrier_with show c carrier.heard carrier.reach
  pub meets : (size : ℕ) → Meets show size c (mask_of size carrier)

-- the problem has so many carriers of the show
pub record HasFirst (show : ShowData) (count : ℕ) (problem : ProblemData) : Type 0 where
  pub slices : (set : List ℕ) → list_any (has_bits set) problem.slices ≡ share_minute (map (λ c. c.times) show.carriers) set
  pub counted : length problem.carriers ≡ count
  pub each : (c : ℕ) → c < count → IsOf show c (slice_index_or problem.carriers c no_data)
