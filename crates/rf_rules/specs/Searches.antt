-- What a search has found, and what it keeps.
use Rattle.std.specs.Prelude.{◌≡◌, ◌-◌, ◌*ℤ◌, ℕ, ℤ, pos, map, length, Option, List, All, slice_index_or}
use Rattle.rf_terms.specs.Kinds.{AllSmall, coefficients_of, roles_of}
use Rattle.rf_terms.specs.Forms.{value_of}
use Rattle.rf_terms.specs.declared.kind.Kind.{Kind}
use Rattle.rf_terms.specs.declared.kind.Kind.TheVariants.{Spacing}
use Rattle.rf_show.specs.Show.{ShowData}
use Rattle.rf_show.specs.Query.{asked}
use Rattle.rf_rules.specs.declared.conflict.Conflict.{Conflict}
use Rattle.rf_rules.specs.declared.search.Search.{Search}
use Rattle.rf_rules.specs.declared.lane.Lane.{Lane}
use Rattle.rf_rules.specs.Tuples.{found_in, upto, tuples}
use Rattle.rf_rules.specs.Instances.{IsLimited, is_broken, khz_in, khzs_in}
use Rattle.rf_rules.specs.Conflicts.{conflict_of}

abbrev pub last_coefficient : Kind → ℤ
last_coefficient kind = slice_index_or (coefficients_of kind) (roles_of kind - 1) (pos 0)

abbrev pub lane_of : ShowData → List (Option ℕ) → Kind → ℕ → Lane
lane_of show ats kind c = record { term = last_coefficient kind *ℤ pos (khz_in ats c); needs = asked show kind c }

-- what the carrier of the first role asks, beside that of the last
abbrev pub floor_of : ShowData → Kind → ℕ → ℕ
floor_of show Spacing c = asked show Spacing c
floor_of show kind c = 0

pub record IsReady (s : Search) : Type 0 where
  pub coefficients : s.coefficients.now ≡ coefficients_of s.kind
  pub small : AllSmall s.coefficients.now
  pub carriers : length s.ats.now ≡ length s.show.now.carriers
  pub lanes : s.lanes.now ≡ map (lane_of s.show.now s.ats.now s.kind) (upto (length s.ats.now))
  pub limited : All IsLimited s.ats.now

-- the form over the first roles
abbrev pub partial_of : Search → List ℕ → ℤ
partial_of s t = value_of s.kind (khzs_in s.ats.now t)

-- the conflicts of the broken instances that begin with t and go on as one of us
abbrev pub broken_in : Search → List ℕ → List (List ℕ) → List Conflict
broken_in s t us = found_in (conflict_of s.show.now s.ats.now s.kind) (is_broken s.show.now s.ats.now s.kind) t us

-- the same for all lists of k carriers
abbrev pub found : Search → List ℕ → ℕ → List Conflict
found s t k = broken_in s t (tuples k (upto (length s.ats.now)))
