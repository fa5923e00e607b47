-- A problem: the carriers of a show without names and texts, as plain data, and the case that it is.
use Rattle.std.specs.Prelude.{ℕ, ◌==◌, List, [], ◌∷◌, ◌++◌, Bool, ◌&&◌, ◌||◌, nat_le, nat_lt, length, map, slice_index_or, if◌then◌else◌}
use Rattle.std.specs.List.{list_all, list_any, filter, range_with_len}
use Rattle.rf_zones.specs.Masks.{has_bit, has_bits}
use Rattle.rf_log.specs.Case.{Case, Carrier}
use Rattle.rf_log.specs.Sets.{sets_that}

-- a carrier: its frequencies in kHz, which of them are allowed, its spacing, its margins in the order of the fields of a
-- profile, and masks of the earlier carriers with which it may be together: in sets of three and four, and in sets of two
pub record CarrierData : Type 0 where
  pub freqs : List ℕ
  pub allowed : List Bool
  pub spacing : ℕ
  pub margins : List ℕ
  pub heard : ℕ
  pub reach : ℕ

-- masks of the carriers that are on in a minute, and the carriers
pub record ProblemData : Type 0 where
  pub slices : List ℕ
  pub carriers : List CarrierData

abbrev pub no_data : CarrierData
no_data = record { freqs = []; allowed = []; spacing = 0; margins = []; heard = 0; reach = 0 }

abbrev pub data_of : ProblemData → ℕ → CarrierData
data_of problem c = slice_index_or problem.carriers c no_data

-- the problem with one carrier more
abbrev pub with_carrier : ProblemData → CarrierData → ProblemData
with_carrier problem carrier = record problem { carriers = problem.carriers ++ carrier ∷ [] }

-- a carrier's mask for sets of so many
abbrev pub mask_of : ℕ → CarrierData → ℕ
mask_of size c = if nat_le size 2 then c.reach else c.heard

-- a carrier says whether it and an earlier one may be together in a set of so many
abbrev pub meets_earlier : ℕ → List CarrierData → ℕ → ℕ → Bool
meets_earlier size carriers c earlier = has_bit (mask_of size (slice_index_or carriers c no_data)) earlier

-- two carriers may be together in a set of so many, or are the same
abbrev pub meet : ℕ → List CarrierData → ℕ → ℕ → Bool
meet size carriers a b = if nat_lt a b then meets_earlier size carriers b a else ((a == b) || meets_earlier size carriers a b)

-- each two of a set may be together in a set of so many
abbrev pub all_meet : ℕ → List CarrierData → List ℕ → Bool
all_meet size carriers set = list_all (λ a. list_all (λ b. meet size carriers a b) set) set

-- one slice has all of a set
abbrev pub share_slice : List ℕ → List ℕ → Bool
share_slice slices set = list_any (has_bits set) slices

-- one slice has all of a set, and each two of them may be together in a set of so many
abbrev pub are_joined : ProblemData → List ℕ → Bool
are_joined problem set = share_slice problem.slices set && all_meet (length set) problem.carriers set

abbrev pub carrier_of : CarrierData → Carrier
carrier_of c = record { freqs = c.freqs; allowed = c.allowed; spacing = c.spacing; margins = c.margins }

-- the case that a problem is
unfoldable pub case_of : ProblemData → Case
case_of problem = record { carriers = map carrier_of problem.carriers; together = sets_that (are_joined problem) (length problem.carriers) }

-- the carriers below n whose bits a mask has
abbrev pub members_of : ℕ → ℕ → List ℕ
members_of n mask = filter (has_bit mask) (range_with_len 0 n)
