-- A plan is applied as one edit.
use Rattle.std.specs.Prelude.{◌≡◌, ℕ, List, Some, None, All, IsTrue, map}
use Rattle.rf_base.specs.Khz.{IsKhz}
use Rattle.rf_log.specs.Case.{IsPlan}
use Rattle.rf_profiles.specs.Channels.{IsChannels}
use Rattle.rf_show.specs.After.{is_edit, refusal}
use Rattle.rf_show.specs.Case.{case_of}
use Rattle.rf_show.specs.Show.{ShowData}
use Rattle.rf_show.specs.declared.edit.Edit.{Edit}
use Rattle.rf_show.specs.declared.edit.Edit.TheVariants.{Place}
use Rattle.rf_solving.specs.Solving.{plan_freqs}

-- the edit that applies a plan
abbrev pub plan_edit : ShowData → List ℕ → Edit
plan_edit show plan = Place (map Some (plan_freqs show plan))

-- an edit that may be asked of a show, and that there is no reason against
pub record IsAdmitted (show : ShowData) (edit : Edit) : Type 0 where
  pub form : IsTrue (is_edit edit)
  pub free : refusal show edit ≡ None

-- a plan is never refused, where carriers are locked too
abbrev pub PlanIsAdmitted : Type 0
PlanIsAdmitted = (show : ShowData) (plan : List ℕ) → IsPlan (case_of show) plan → IsAdmitted show (plan_edit show plan)

-- a plan has frequencies that an edit may have, where the profiles have channels as they keep them
abbrev pub PlanIsInKhz : Type 0
PlanIsInKhz = (show : ShowData) (plan : List ℕ) → All (λ p. IsChannels p.channels) show.profiles → IsPlan (case_of show) plan
    → All IsKhz (plan_freqs show plan)
