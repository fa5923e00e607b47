-- A case: all that a plan has to meet, as plain data.
use Rattle.std.specs.Prelude.{◌≡◌, ℕ, ◌<◌, ◌-◌, ◌==◌, List, [], ◌∷◌, Bool, true, false, not, ◌&&◌, Option, Some, None, nat_lt, max, map, length, unsigned_abs, slice_index, slice_index_or, IsTrue}
use Rattle.std.specs.List.{list_all, list_any}
use Rattle.rf_terms.specs.declared.kind.Kind.{Kind}
use Rattle.rf_terms.specs.declared.kind.Kind.TheVariants.{Spacing}
use Rattle.rf_terms.specs.declared.kind.Margin.{Margin}
use Rattle.rf_terms.specs.Kinds as table
use Rattle.rf_terms.specs.Forms.{value_of}

-- a carrier: the frequencies of its channels in kHz, rising; which of them are allowed; its spacing, and its margins in the
-- order of the table of margins
pub record Carrier : Type 0 where
  pub freqs : List ℕ
  pub allowed : List Bool
  pub spacing : ℕ
  pub margins : List ℕ

-- the carriers, and which sets of two to four of them are together, each a rising list
pub record Case : Type 0 where
  pub carriers : List Carrier
  pub together : List (List ℕ)

abbrev pub no_carrier : Carrier
no_carrier = record { freqs = []; allowed = []; spacing = 0; margins = [] }

abbrev pub carrier_of : Case → ℕ → Carrier
carrier_of case c = slice_index_or case.carriers c no_carrier

-- the number of channels of a carrier
abbrev pub count_of : Case → ℕ → ℕ
count_of case c = length (carrier_of case c).freqs

-- the numbers of channels of the carriers
abbrev pub counts_of : Case → List ℕ
counts_of case = map (λ c. length c.freqs) case.carriers

abbrev pub freq_of : Case → ℕ → ℕ → ℕ
freq_of case c k = slice_index (carrier_of case c).freqs k

abbrev pub is_allowed : Case → ℕ → ℕ → Bool
is_allowed case c k = slice_index_or (carrier_of case c).allowed k false

-- what a carrier asks
abbrev pub asked : Carrier → Margin → ℕ
asked carrier margin = slice_index (carrier.spacing ∷ carrier.margins) (table.place_of margin)

abbrev pub asked_by : Case → Kind → ℕ → ℕ
asked_by case kind c = asked (carrier_of case c) (table.margin_of kind)

-- what the victim asks, which has the last role; for spacing the larger of what the two carriers ask
abbrev pub margin_of : Case → Kind → List ℕ → ℕ
margin_of case Spacing roles = max (asked_by case Spacing (slice_index roles 0)) (asked_by case Spacing (slice_index roles 1))
margin_of case kind roles = asked_by case kind (slice_index roles (table.roles_of kind - 1))

-- of two roles, the carrier of the first stands before that of the second
abbrev pub stands_before : List ℕ → Option (ℕ × ℕ) → Bool
stands_before roles None = true
stands_before roles (Some pair) = nat_lt (slice_index roles pair.0) (slice_index roles pair.1)

abbrev pub is_in_order : Kind → List ℕ → Bool
is_in_order kind roles = stands_before roles (table.order_of kind)

abbrev pub is_among : List ℕ → ℕ → Bool
is_among set c = list_any (λ x. x == c) set

abbrev pub are_distinct : List ℕ → Bool
are_distinct [] = true
are_distinct (c ∷ cs) = not (is_among cs c) && are_distinct cs

-- the set has just these carriers, which are distinct
abbrev pub has_just : List ℕ → List ℕ → Bool
has_just carriers set = (length set == length carriers) && list_all (is_among set) carriers

abbrev pub are_together : Case → List ℕ → Bool
are_together case carriers = list_any (has_just carriers) case.together

-- distinct carriers in the roles of the kind, in its order, that are together
abbrev pub is_instance : Case → Kind → List ℕ → Bool
is_instance case kind roles = (length roles == table.roles_of kind) && list_all (λ c. nat_lt c (length case.carriers)) roles
    && are_distinct roles && is_in_order kind roles && are_together case roles

-- the frequencies of the roles, where each carrier c has its index `at c`
abbrev pub freqs_at : Case → List ℕ → (ℕ → ℕ) → List ℕ
freqs_at case roles at = map (λ c. freq_of case c (at c)) roles

-- the form of the kind lies nearer to 0 than the margin
abbrev pub is_broken : Kind → List ℕ → ℕ → Bool
is_broken kind freqs margin = nat_lt (unsigned_abs (value_of kind freqs)) margin

-- the instance is broken where each carrier c has its index `at c`
abbrev pub breaks : Case → Kind → List ℕ → (ℕ → ℕ) → Bool
breaks case kind roles at = is_broken kind (freqs_at case roles at) (margin_of case kind roles)

-- a plan: an index for each carrier, that is allowed, and with which no instance is broken
pub record IsPlan (case : Case) (plan : List ℕ) : Type 0 where
  pub full : length plan ≡ length case.carriers
  pub known : (c : ℕ) → c < length plan → slice_index plan c < count_of case c
  pub allowed : (c : ℕ) → c < length plan → IsTrue (is_allowed case c (slice_index plan c))
  pub kept : (kind : Kind) (roles : List ℕ) → IsTrue (is_instance case kind roles) → breaks case kind roles (slice_index plan) ≡ false
