-- A show as a case: what a plan of its carriers has to meet.
use Rattle.std.specs.Prelude.{◌≡◌, ◌<◌, ◌≤◌, ℕ, true, List, [], All, length, map}
use Rattle.std.specs.List.{range_with_len}
use Rattle.std.specs.Option.{option_map_or}
use Rattle.rf_terms.specs.declared.kind.Kind.{Kind}
use Rattle.rf_terms.specs.declared.kind.Margin.{Margin}
use Rattle.rf_terms.specs.Kinds.{roles_of}
use Rattle.rf_profiles.specs.Channels.{channels}
use Rattle.rf_profiles.specs.Profile as profile
use Rattle.rf_profiles.specs.Profile.{margin_widths}
use Rattle.rf_log.specs.Case as case
use Rattle.rf_log.specs.Case.{Case, are_distinct, are_together, carrier_of}
use Rattle.rf_log.specs.Sets.{sets_that}
use Rattle.rf_show.specs.Show.{ShowData}
use Rattle.rf_show.specs.Query as query
use Rattle.rf_show.specs.Query.{profile_of, is_together}

-- the frequencies of a carrier's channels
abbrev pub channels_of : ShowData → ℕ → List ℕ
channels_of show c = option_map_or (λ p. channels p.channels) (profile_of show c) []

-- what a carrier's profile asks
abbrev pub asked : ShowData → ℕ → Margin → ℕ
asked show c margin = option_map_or (λ p. profile.asked p margin) (profile_of show c) 0

-- the spacing that a carrier's profile asks
abbrev pub spacing_of : ShowData → ℕ → ℕ
spacing_of show c = option_map_or (λ p. p.spacing) (profile_of show c) 0

-- the margins that a carrier's profile asks, in the order of their fields
abbrev pub margins_of : ShowData → ℕ → List ℕ
margins_of show c = option_map_or (λ p. margin_widths p.margins) (profile_of show c) []

-- a carrier of the case
unfoldable pub case_carrier : ShowData → ℕ → case.Carrier
case_carrier show c = record {
  freqs = channels_of show c;
  allowed = map (query.is_allowed show c) (range_with_len 0 (length (channels_of show c)));
  spacing = spacing_of show c;
  margins = margins_of show c;
}

-- the case of a show
unfoldable pub case_of : ShowData → Case
case_of show = record {
  carriers = map (case_carrier show) (range_with_len 0 (length show.carriers));
  together = sets_that (is_together show) (length show.carriers);
}

-- what is asked of a case is what is asked of the show
pub record Agree (show : ShowData) (of : Case) : Type 0 where
  pub carriers : length of.carriers ≡ length show.carriers
  pub freqs : (c : ℕ) → c < length show.carriers → (carrier_of of c).freqs ≡ channels_of show c
  pub allowed : (c k : ℕ) → c < length show.carriers → case.is_allowed of c k ≡ query.is_allowed show c k
  pub margin : (kind : Kind) (roles : List ℕ) → length roles ≡ roles_of kind → All (λ c. c < length show.carriers) roles
      → case.margin_of of kind roles ≡ query.margin_of show kind roles
  pub together : (set : List ℕ) → All (λ c. c < length show.carriers) set → are_distinct set ≡ true → 2 ≤ length set → length set ≤ 4
      → are_together of set ≡ is_together show set

abbrev pub CaseIsAsked : Type 0
CaseIsAsked = (show : ShowData) → Agree show (case_of show)
