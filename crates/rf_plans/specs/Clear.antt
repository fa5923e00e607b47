-- Shows of which nothing is to be reported.
use Rattle.std.specs.Prelude.{◌≡◌, ◌<◌, ℕ, List, [], Ok, length, slice_index}
use Rattle.rf_log.specs.Case.{IsPlan}
use Rattle.rf_show.specs.After.{after}
use Rattle.rf_show.specs.Case.{case_of}
use Rattle.rf_show.specs.Query.{at_of, channel_of}
use Rattle.rf_show.specs.Show.{ShowData}
use Rattle.rf_rules.specs.Analyses.{analysis}
use Rattle.rf_solving.specs.Placing.{plan_edit}

-- each carrier stands on its channel of a plan
abbrev pub StandOn : ShowData → List ℕ → Type 0
StandOn show plan = (c : ℕ) → c < length show.carriers → at_of show c ≡ channel_of show c (slice_index plan c)

-- no carrier is off its grid or banned, and no instance is broken
abbrev pub IsClear : ShowData → Type 0
IsClear show = analysis show ≡ []

-- A show whose carriers all stand on the channels of a plan of its case is clear.
abbrev pub PlansAreClear : Type 0
PlansAreClear = (show : ShowData) (plan : List ℕ) → IsPlan (case_of show) plan → StandOn show plan → IsClear show

-- A show in which a plan was placed is clear.
abbrev pub PlacedPlansAreClear : Type 0
PlacedPlansAreClear = (show new : ShowData) (plan : List ℕ) → IsPlan (case_of show) plan → after show (plan_edit show plan) ≡ Ok new
    → IsClear new
