-- Which lists of carriers are instances of a kind, and which of them are broken at given frequencies. `ats` has the
-- frequency of each carrier, for those that have one.
use Rattle.std.specs.Prelude.{◌+◌, ◌<◌, ◌≤◌, ℕ, Bool, true, ◌&&◌, ◌==◌, nat_lt, not, is_some, unwrap_or, Option, Some, None, map, length, List, [], ◌∷◌, filter, All, unsigned_abs, slice_index_or}
use Rattle.std.specs.List.{list_all, list_any}
use Rattle.std.specs.Option.{option_map_or}
use Rattle.rf_terms.specs.Kinds.{order_of, roles_of}
use Rattle.rf_terms.specs.Forms.{value_of}
use Rattle.rf_terms.specs.declared.kind.Kind.{Kind}
use Rattle.rf_show.specs.Show.{ShowData}
use Rattle.rf_show.specs.Query.{are_joined, margin_of}
use Rattle.rf_rules.specs.Tuples.{upto, tuples}

-- no carrier stands twice
abbrev pub is_distinct : List ℕ → Bool
is_distinct [] = true
is_distinct (c ∷ t) = not (list_any (λ d. d == c) t) && is_distinct t

-- the carrier of the first of two roles stands before that of the second
abbrev pub stands_in_order : Option (ℕ × ℕ) → List ℕ → Bool
stands_in_order None t = true
stands_in_order (Some p) t = nat_lt (slice_index_or t p.0 0) (slice_index_or t p.1 0)

abbrev pub is_in_order : Kind → List ℕ → Bool
is_in_order kind t = stands_in_order (order_of kind) t

-- how many of the first roles stand in an order
abbrev pub ordered_roles : Kind → ℕ
ordered_roles kind = option_map_or (λ p. p.1 + 1) (order_of kind) 0

-- an instance of a kind: carriers that are distinct, in the order of the roles, and together in a set of as many as the kind
-- has roles. The sources of a product are judged so too, as an instance with a victim would be.
unfoldable pub is_instance : ShowData → Kind → List ℕ → Bool
is_instance show kind t = is_distinct t && is_in_order kind t && are_joined show (roles_of kind) t

-- the frequencies at which the carriers of a show stand
abbrev pub ats_of : ShowData → List (Option ℕ)
ats_of show = map (λ c. c.at) show.carriers

abbrev pub at_in : List (Option ℕ) → ℕ → Option ℕ
at_in ats c = slice_index_or ats c None

abbrev pub are_assigned : List (Option ℕ) → List ℕ → Bool
are_assigned ats t = list_all (λ c. is_some (at_in ats c)) t

-- carriers that have frequencies, none of which stands twice
abbrev pub is_open : List (Option ℕ) → List ℕ → Bool
is_open ats t = are_assigned ats t && is_distinct t

-- a carrier's frequency, and 0 where it has none
abbrev pub khz_in : List (Option ℕ) → ℕ → ℕ
khz_in ats c = unwrap_or (at_in ats c) 0

abbrev pub khzs_in : List (Option ℕ) → List ℕ → List ℕ
khzs_in ats t = map (khz_in ats) t

-- how far from 0 the form is
unfoldable pub distance_of : List (Option ℕ) → Kind → List ℕ → ℕ
distance_of ats kind t = unsigned_abs (value_of kind (khzs_in ats t))

-- an instance of carriers that have frequencies
unfoldable pub is_candidate : ShowData → List (Option ℕ) → Kind → List ℕ → Bool
is_candidate show ats kind t = are_assigned ats t && is_instance show kind t

-- an instance whose form lies nearer to 0 than its margin
unfoldable pub is_broken : ShowData → List (Option ℕ) → Kind → List ℕ → Bool
is_broken show ats kind t = nat_lt (distance_of ats kind t) (margin_of show kind t) && is_candidate show ats kind t

-- the broken instances of a kind, by the carrier of the first role, then by that of the second, and so on
abbrev pub broken_of : ShowData → List (Option ℕ) → Kind → List (List ℕ)
broken_of show ats kind = filter (is_broken show ats kind) (tuples (roles_of kind) (upto (length ats)))

abbrev pub AreCarriers : List (Option ℕ) → List ℕ → Type 0
AreCarriers ats t = All (λ c. c < length ats) t

-- a frequency is in its limits
abbrev pub IsLimited : Option ℕ → Type 0
IsLimited at = unwrap_or at 0 ≤ 10000000
