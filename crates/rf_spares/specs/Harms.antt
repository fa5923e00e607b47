-- What a newcomer breaks at a frequency, from the other carriers of an instance.
use Rattle.std.specs.Prelude.{◌-◌, ◌&&◌, ◌==◌, ℕ, pos, Bool, true, List, [], ◌++◌, Option, Some, None, insert, length, max, nat_lt, slice_index_or, unsigned_abs, if◌then◌else◌}
use Rattle.std.specs.List.{list_all, list_any}
use Rattle.rf_terms.specs.Kinds.{coefficients_of, kinds, roles_of}
use Rattle.rf_terms.specs.Windows.{form_with}
use Rattle.rf_terms.specs.declared.kind.Kind.{Kind}
use Rattle.rf_terms.specs.declared.kind.Kind.TheVariants.{Spacing}
use Rattle.rf_zones.specs.Slices.{share_minute}
use Rattle.rf_show.specs.Limits.{most_carriers}
use Rattle.rf_show.specs.Show.{ShowData}
use Rattle.rf_rules.specs.Instances.{are_assigned, is_distinct, is_in_order, khzs_in}
use Rattle.rf_rules.specs.Tuples.{tuples, upto}
use Rattle.rf_spares.specs.Crowds.{asked_at, meets, needs_of, own_number, zone_numbers, times_of}
use Rattle.rf_spares.specs.Spare.{has_role}

-- A place among other carriers: the show, the profile and the zone of the newcomer.
pub record Site : Type 0 where
  pub show : ShowData
  pub profile : ℕ
  pub zone : ℕ

abbrev pub number_at : Site → ℕ → ℕ
number_at s c = slice_index_or (zone_numbers s.show s.zone) c 0

-- the margin where the newcomer stands in a role, and others in the other roles
abbrev pub margin_at : Site → Kind → ℕ → List ℕ → ℕ
margin_at s Spacing role u = max (slice_index_or (needs_of s.show s.profile Spacing) (slice_index_or u 0 0) 0) (asked_at s.show s.profile Spacing)
margin_at s kind role u =
    if role == roles_of kind - 1
    then asked_at s.show s.profile kind
    else slice_index_or (needs_of s.show s.profile kind) (slice_index_or u (roles_of kind - 1 - 1) 0) 0

-- two carriers may be together in a set of so many
abbrev pub meets_at : Site → ℕ → ℕ → ℕ → Bool
meets_at s size a b = meets s.show.zones size (number_at s a) (number_at s b)

-- each of the others may be together with the newcomer in a set of so many
unfoldable pub hears_all : Site → ℕ → List ℕ → Bool
hears_all s size u = list_all (λ b. meets s.show.zones size (own_number s.show s.zone) (number_at s b)) u

-- each two of the others may be together in a set of so many
unfoldable pub all_meet : Site → ℕ → List ℕ → Bool
all_meet s size u = list_all (λ a. list_all (λ b. meets_at s size a b) u) u

-- the others can be together with the newcomer
abbrev pub joins_all : Site → ℕ → List ℕ → Bool
joins_all s size u = hears_all s size u && (all_meet s size u && share_minute (times_of s.show) u)

-- with the newcomer in a role, behind all others in the show, they are an instance of carriers that have frequencies
unfoldable pub admits : Site → List (Option ℕ) → Kind → ℕ → List ℕ → Bool
admits s ats kind role u =
    are_assigned ats u && (is_distinct u && is_in_order kind (insert u role most_carriers) && joins_all s (roles_of kind) u)

-- that instance is broken where the newcomer stands at a frequency
unfoldable pub harm : Site → List (Option ℕ) → Kind → ℕ → List ℕ → ℕ → Bool
harm s ats kind role u f =
    nat_lt (unsigned_abs (form_with (coefficients_of kind) role (khzs_in ats u) (pos f))) (margin_at s kind role u)
    && admits s ats kind role u

-- a carrier that must be among the others, if any is named, is
abbrev pub wants : Option ℕ → List ℕ → Bool
wants None u = true
wants (Some c) u = has_role c u

-- one of the instances of a kind that begin with t is broken, with the newcomer in this role
abbrev pub harms_from : Site → List (Option ℕ) → Option ℕ → Kind → ℕ → List ℕ → ℕ → ℕ → Bool
harms_from s ats must kind role t k f =
    list_any (λ u. wants must (t ++ u) && harm s ats kind role (t ++ u) f) (tuples k (upto (length ats)))

abbrev pub harms_role : Site → List (Option ℕ) → Option ℕ → Kind → ℕ → ℕ → Bool
harms_role s ats must kind f role = harms_from s ats must kind role [] (roles_of kind - 1) f

abbrev pub harms_kind : Site → List (Option ℕ) → Option ℕ → ℕ → Kind → Bool
harms_kind s ats must f kind = list_any (harms_role s ats must kind f) (upto (roles_of kind))

-- one of all instances is broken
unfoldable pub harms : Site → List (Option ℕ) → Option ℕ → ℕ → Bool
harms s ats must f = list_any (harms_kind s ats must f) kinds
