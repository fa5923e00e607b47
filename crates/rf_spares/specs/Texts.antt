-- The reply to `spares`.
use Rattle.std.specs.Prelude.{◌<◌, ℕ, Bool, List, [], ◌∷◌, ◌++◌, ◌-◌, ◌==◌, All, length, slice_get, slice_index, codes, decimal}
use Rattle.std.specs.List.{flat_map, list_any}
use Rattle.std.specs.Option.{option_map_or}
use Rattle.rf_base.specs.Lines.{line_of}
use Rattle.rf_profiles.specs.Channels.{channels}
use Rattle.rf_profiles.specs.Range.{Span}
use Rattle.rf_show.specs.Show.{ShowData}
use Rattle.rf_spares.specs.Newcomers.{channels_at}
use Rattle.rf_spares.specs.Spare.{chosen, spare_channels}
use Rattle.rf_spares.specs.declared.answer.Spares.{Spares}
use Rattle.rf_profiles.specs.Runs.{blocks, runs}

-- the channels that pass and follow each other within one range
abbrev pub runs_in : (ℕ → Bool) → List Span → List (List ℕ)
runs_in test ranges = flat_map (runs test) (blocks 0 ranges)

abbrev pub is_among : List ℕ → ℕ → Bool
is_among ks k = list_any (λ j. j == k) ks

-- the frequencies of a profile's ranges
abbrev pub channels_in : List Span → List ℕ
channels_in ranges = channels ranges

-- the frequency of a channel
abbrev pub khz_at : List Span → ℕ → ℕ
khz_at ranges k = slice_index (channels ranges) k

-- the first frequency of a run, its last, and how many it has
unfoldable pub run_line : List Span → List ℕ → List ℕ
run_line ranges run =
    line_of (decimal (khz_at ranges (slice_index run 0)) ∷ decimal (khz_at ranges (slice_index run (length run - 1))) ∷ decimal (length run) ∷ [])

abbrev pub take_line : List Span → ℕ → List ℕ
take_line ranges k = line_of (codes "take" ∷ decimal (khz_at ranges k) ∷ [])

-- the ranges of a profile
abbrev pub ranges_at : ShowData → ℕ → List Span
ranges_at show profile = option_map_or (λ p. p.channels) (slice_get show.profiles profile) []

-- the runs of free channels, how many are free, those that are taken, and how many they are
abbrev pub answer_text : List Span → Spares → List ℕ
answer_text ranges answer =
    flat_map (run_line ranges) (runs_in (is_among answer.free) ranges)
    ++ (line_of (codes "channels" ∷ decimal (length answer.free) ∷ [])
    ++ (flat_map (take_line ranges) answer.taken ++ line_of (codes "taken" ∷ decimal (length answer.taken) ∷ [])))

abbrev pub text_of : ShowData → ℕ → Spares → List ℕ
text_of show profile answer = answer_text (ranges_at show profile) answer

-- the reply to `spares`
abbrev pub spares_text_of : ShowData → ℕ → ℕ → ℕ → List ℕ
spares_text_of show profile zone count =
    text_of show profile (record { free = spare_channels show profile zone; taken = chosen show profile zone count })

-- the channels of an answer are there
pub record IsListed (show : ShowData) (profile : ℕ) (answer : Spares) : Type 0 where
  pub free : All (λ k. k < length (channels_at show profile)) answer.free
  pub taken : All (λ k. k < length (channels_at show profile)) answer.taken
