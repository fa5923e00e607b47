-- What of an analysis stays where some carriers change. A mask has a bit for each of them.
use Rattle.std.specs.Prelude.{◌≡◌, ◌-◌, ℕ, Bool, false, not, ◌&&◌, ◌==◌, nat_lt, ◌++◌, List, [], ◌∷◌, filter, length, take}
use Rattle.std.specs.List.{flat_map}
use Rattle.rf_terms.specs.Kinds.{kinds, roles_of}
use Rattle.rf_terms.specs.declared.kind.Kind.{Kind}
use Rattle.rf_terms.specs.declared.kind.Kind.TheVariants.{Spacing as SpacingKind, T3Two, T3Three, T5Two, T5ThreeA, T5ThreeB, T7Two}
use Rattle.rf_show.specs.Show.{ShowData}
use Rattle.rf_zones.specs.Masks.{has_bit}
use Rattle.rf_show.specs.Query.{are_joined, asked}
use Rattle.rf_rules.specs.Analyses.{analysis, banned_carriers, off_grid}
use Rattle.rf_rules.specs.Instances.{at_in, ats_of}
use Rattle.rf_rules.specs.Touched.{meets, touched_of}
use Rattle.rf_rules.specs.declared.conflict.Conflict.{Conflict}
use Rattle.rf_rules.specs.declared.conflict.Conflict.TheVariants.{Product, Spacing}
use Rattle.rf_rules.specs.Merges.{merge, stands_before}

-- the place of a kind in the rule table
abbrev pub number_of : Kind → ℕ
number_of SpacingKind = 0
number_of T3Two = 1
number_of T3Three = 2
number_of T5Two = 3
number_of T5ThreeA = 4
number_of T5ThreeB = 5
number_of T7Two = 6

-- a conflict is a broken instance of this kind
abbrev pub is_of : Kind → Conflict → Bool
is_of kind (Spacing a b distance needs) = number_of kind == 0
is_of kind (Product other sources victim product distance needs) = number_of kind == number_of other
is_of kind _ = false

-- the carriers of a conflict that is a broken instance of a kind
abbrev pub roles_in : Kind → Conflict → List ℕ
roles_in kind (Spacing a b distance needs) = a ∷ b ∷ []
roles_in kind (Product other sources victim product distance needs) = take (roles_of kind - 1) sources ++ victim ∷ []
roles_in kind _ = []

-- the order of the broken instances of a kind
abbrev pub precedes : Kind → Conflict → Conflict → Bool
precedes kind c d = stands_before (roles_in kind c) (roles_in kind d)

-- a broken instance of a kind that has no carrier of a mask
abbrev pub is_kept : Kind → ℕ → Conflict → Bool
is_kept kind mask c = is_of kind c && not (meets mask (roles_in kind c))

-- two shows agree on all carriers that are not of a mask: both have such a carrier or none, and what is asked of it is the same
pub record Agrees (mask : ℕ) (old new : ShowData) : Type 0 where
  pub carriers : (c : ℕ) → has_bit mask c ≡ false → nat_lt c (length old.carriers) ≡ nat_lt c (length new.carriers)
  pub at : (c : ℕ) → has_bit mask c ≡ false → at_in (ats_of old) c ≡ at_in (ats_of new) c
  pub asked : (kind : Kind) (c : ℕ) → has_bit mask c ≡ false → asked old kind c ≡ asked new kind c
  pub joined : (size : ℕ) (t : List ℕ) → meets mask t ≡ false → are_joined old size t ≡ are_joined new size t

-- the broken instances of a kind: those of before that have no carrier of the mask, and those of now that have one
abbrev pub renewed_of : ℕ → List Conflict → ShowData → Kind → List Conflict
renewed_of mask before show kind =
    merge (precedes kind) (filter (is_kept kind mask) before) (touched_of show (ats_of show) kind mask)

-- an analysis from that of before
abbrev pub renewed : ℕ → List Conflict → ShowData → List Conflict
renewed mask before show =
    off_grid show ++ (banned_carriers show ++ flat_map (renewed_of mask before show) kinds)

abbrev pub AnalysisIsRenewed : Type 0
AnalysisIsRenewed = (mask : ℕ) (old new : ShowData) → Agrees mask old new → renewed mask (analysis old) new ≡ analysis new
