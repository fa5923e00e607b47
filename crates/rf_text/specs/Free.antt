-- The reply to `free`.
use Rattle.std.specs.Prelude.{ℕ, List, [], ◌∷◌, ◌++◌, ◌-◌, length, slice_index, unwrap_or, sum_by, codes, decimal}
use Rattle.std.specs.List.{flat_map}
use Rattle.std.specs.Option.{option_map_or}
use Rattle.rf_profiles.specs.Channels.{channels}
use Rattle.rf_profiles.specs.Range.{Span}
use Rattle.rf_show.specs.Show.{ShowData}
use Rattle.rf_show.specs.Query.{channel_of, is_allowed, profile_of}
use Rattle.rf_base.specs.Lines.{line_of}
use Rattle.rf_profiles.specs.Runs.{blocks, runs}

abbrev pub ranges_of : ShowData → ℕ → List Span
ranges_of show c = option_map_or (λ p. p.channels) (profile_of show c) []

abbrev pub channel_count : ShowData → ℕ → ℕ
channel_count show c = length (channels (ranges_of show c))

-- the allowed channels of a carrier that follow each other within one range
abbrev pub free_runs : ShowData → ℕ → List (List ℕ)
free_runs show c = flat_map (runs (is_allowed show c)) (blocks 0 (ranges_of show c))

-- the frequency of a carrier's channel
abbrev pub khz_at : ShowData → ℕ → ℕ → ℕ
khz_at show c k = unwrap_or (channel_of show c k) 0

-- the first frequency of a run, its last, and how many it has
unfoldable pub run_line : ShowData → ℕ → List ℕ → List ℕ
run_line show c run =
    line_of (decimal (khz_at show c (slice_index run 0)) ∷ decimal (khz_at show c (slice_index run (length run - 1))) ∷ decimal (length run) ∷ [])

-- the reply to `free`
abbrev pub free_text_of : ShowData → ℕ → List ℕ
free_text_of show c =
    flat_map (run_line show c) (free_runs show c) ++ line_of (codes "channels" ∷ decimal (sum_by length (free_runs show c)) ∷ [])
