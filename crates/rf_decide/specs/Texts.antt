-- The texts of plans and logs of a show.
use Rattle.std.specs.Prelude.{◌≡◌, ◌<◌, ◌++◌, ℕ, List, codes, decimal, length, slice_index}
use Rattle.rf_log.specs.Case.{IsPlan}
use Rattle.rf_show.specs.Case.{case_of, channels_of}
use Rattle.rf_show.specs.Show.{ShowData, carrier_names}
use Rattle.rf_solving.specs.Solving.{at_lines, plan_freqs}

-- the index of a channel for each carrier
pub record IsIndexed (show : ShowData) (plan : List ℕ) : Type 0 where
  pub full : length plan ≡ length show.carriers
  pub known : (c : ℕ) → c < length show.carriers → slice_index plan c < length (channels_of show c)

-- a plan has an index for each carrier
abbrev pub PlanIsIndexed : Type 0
PlanIsIndexed = (show : ShowData) (plan : List ℕ) → IsPlan (case_of show) plan → IsIndexed show plan

-- a line `at NAME KHZ` for each carrier, in order
abbrev pub plan_text : ShowData → List ℕ → List ℕ
plan_text show plan = at_lines (carrier_names show.carriers) (plan_freqs show plan)

-- a line with a word and a number
abbrev pub number_line : List ℕ → ℕ → List ℕ
number_line word n = word ++ (codes " " ++ (decimal n ++ codes "\n"))
