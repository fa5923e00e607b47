-- Plans of a show: for each carrier the index of a channel.
use Rattle.std.specs.Prelude.{◌≡◌, ◌<◌, ℕ, Bool, true, false, List, Option, length, map, slice_index, ◌++◌}
use Rattle.std.specs.List.{list_any}
use Rattle.rf_terms.specs.Kinds.{roles_of}
use Rattle.rf_terms.specs.declared.kind.Kind.{Kind}
use Rattle.rf_show.specs.Show.{ShowData}
use Rattle.rf_show.specs.Query.{channel_of, is_allowed}
use Rattle.rf_show.specs.Case.{channels_of}
use Rattle.rf_rules.specs.Tuples.{tuples, upto}
use Rattle.rf_rules.specs.Instances.{AreCarriers, is_broken}

-- the frequencies of a plan's channels
abbrev pub planned : ShowData → List ℕ → List (Option ℕ)
planned show plan = map (λ c. channel_of show c (slice_index plan c)) (upto (length plan))

-- a plan: an index for each carrier, of a channel that is allowed, such that no instance of a kind is broken
pub record IsPlan (show : ShowData) (plan : List ℕ) : Type 0 where
  pub full : length plan ≡ length show.carriers
  pub known : (c : ℕ) → c < length plan → slice_index plan c < length (channels_of show c)
  pub allowed : (c : ℕ) → c < length plan → is_allowed show c (slice_index plan c) ≡ true
  pub kept : (kind : Kind) (roles : List ℕ) → length roles ≡ roles_of kind → AreCarriers (planned show plan) roles
      → is_broken show (planned show plan) kind roles ≡ false

-- ---- how it is asked

-- a kind has a broken instance
abbrev pub has_broken : ShowData → List (Option ℕ) → Kind → Bool
has_broken show ats kind = list_any (is_broken show ats kind) (tuples (roles_of kind) (upto (length ats)))

-- a kind has a broken instance that begins with t and goes on with k carriers
abbrev pub breaks_from : ShowData → List (Option ℕ) → Kind → List ℕ → ℕ → Bool
breaks_from show ats kind t k = list_any (λ u. is_broken show ats kind (t ++ u)) (tuples k (upto (length ats)))
