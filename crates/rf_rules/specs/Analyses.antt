-- The analysis of a show.
use Rattle.std.specs.Prelude.{ℕ, Bool, false, not, Option, List, ◌++◌, length, map, filter}
use Rattle.std.specs.List.{flat_map}
use Rattle.std.specs.Option.{option_map_or}
use Rattle.rf_terms.specs.Kinds.{kinds}
use Rattle.rf_terms.specs.declared.kind.Kind.{Kind}
use Rattle.rf_show.specs.Show.{ShowData}
use Rattle.rf_show.specs.Query.{is_banned, is_channel}
use Rattle.rf_rules.specs.Tuples.{upto}
use Rattle.rf_rules.specs.Instances.{at_in, ats_of, broken_of}
use Rattle.rf_rules.specs.Conflicts.{conflict_of}
use Rattle.rf_rules.specs.Tallies.{shown_of}
use Rattle.rf_rules.specs.declared.conflict.Conflict.{Conflict}
use Rattle.rf_rules.specs.declared.conflict.Conflict.TheVariants.{Banned, OffGrid}
use Rattle.rf_rules.specs.declared.analysis.Analysis.{Analysis}

-- a carrier's frequency is no channel of its profile
abbrev pub is_off_grid : ShowData → ℕ → Option ℕ → Bool
is_off_grid show c at = option_map_or (λ f. not (is_channel show c f)) at false

-- the assigned carriers that are off their grid, in order
abbrev pub off_grid : ShowData → List Conflict
off_grid show = map OffGrid (filter (λ c. is_off_grid show c (at_in (ats_of show) c)) (upto (length show.carriers)))

-- a carrier's frequency is banned for it
abbrev pub stands_banned : ShowData → ℕ → Option ℕ → Bool
stands_banned show c at = option_map_or (λ f. is_banned show c f) at false

-- the assigned carriers whose frequency is banned, in order
abbrev pub banned_carriers : ShowData → List Conflict
banned_carriers show = map Banned (filter (λ c. stands_banned show c (at_in (ats_of show) c)) (upto (length show.carriers)))

-- the broken instances of a kind, as they are reported
abbrev pub conflicts_of : ShowData → List (Option ℕ) → Kind → List Conflict
conflicts_of show ats kind = map (conflict_of show ats kind) (broken_of show ats kind)

-- all conflicts of a show
abbrev pub analysis : ShowData → List Conflict
analysis show = off_grid show ++ (banned_carriers show ++ flat_map (conflicts_of show (ats_of show)) kinds)

-- what is reported of them
abbrev pub analysed : ShowData → Analysis
analysed show = record { shown = shown_of (analysis show); total = length (analysis show) }
