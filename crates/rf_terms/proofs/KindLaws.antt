-- The laws of the rule table: each is a test of its rows, or one line a row.
use Rattle.std.proofs.Common.{◌≡◌, ◌≤◌, ◌++◌, ℤ, unsigned_abs, List, arith, refl, Bool, true, false, nat_le, nat_lt, ◌&&◌, Contains, Some}
use Rattle.std.specs.List.{list_all}
use Rattle.std.proofs.lemmas.List.Sums.{AllPass-from_list_all}
use Rattle.std.proofs.lemmas.Bool.Decides.{nat_tests}
use Rattle.rf_terms.specs.declared.kind.TheConstants.{MARGINS}
use Rattle.rf_terms.specs.declared.kind.Kind.{Kind}
use Rattle.rf_terms.specs.declared.kind.Kind.TheVariants.{Spacing, T3Two, T3Three, T5Two, T5ThreeA, T5ThreeB, T7Two}
use Rattle.rf_terms.specs.declared.kind.Margin.{Margin}
use Rattle.rf_terms.specs.declared.kind.Margin.TheVariants.{Spacing as OfSpacing}
use Rattle.rf_terms.specs.Kinds.{AllSmall, coefficients_of, has_victim, kind_of, kinds, kinds_with, place_of, roles_of, text_of}
use Rattle.rf_terms.specs.Laws.{KindLaws}

pub kind_listed : (kind : Kind) → Contains kinds kind
kind_listed Spacing = (0, omega arith, refl)
kind_listed T3Two = (1, omega arith, refl)
kind_listed T3Three = (2, omega arith, refl)
kind_listed T5Two = (3, omega arith, refl)
kind_listed T5ThreeA = (4, omega arith, refl)
kind_listed T5ThreeB = (5, omega arith, refl)
kind_listed T7Two = (6, omega arith, refl)

pub kind_among : (kind : Kind) → Contains (kinds_with (roles_of kind)) kind
kind_among Spacing = (0, omega arith, refl)
kind_among T3Two = (0, omega arith, refl)
kind_among T5Two = (1, omega arith, refl)
kind_among T7Two = (2, omega arith, refl)
kind_among T3Three = (0, omega arith, refl)
kind_among T5ThreeA = (1, omega arith, refl)
kind_among T5ThreeB = (2, omega arith, refl)

pub every_kind : (kind : Kind) → Contains (kinds_with 2 ++ (kinds_with 3 ++ kinds_with 4)) kind
every_kind Spacing = (0, omega arith, refl)
every_kind T3Two = (1, omega arith, refl)
every_kind T5Two = (2, omega arith, refl)
every_kind T7Two = (3, omega arith, refl)
every_kind T3Three = (4, omega arith, refl)
every_kind T5ThreeA = (5, omega arith, refl)
every_kind T5ThreeB = (6, omega arith, refl)

-- ---- the roles

roles-test : (kind : Kind) → (nat_le 2 (roles_of kind) && nat_le (roles_of kind) 4) ≡ true
roles-test Spacing = refl
roles-test _ = refl

pub two_roles : (kind : Kind) → 2 ≤ roles_of kind
two_roles kind = let p = roles-test kind in grind (arith, nat_tests, p)

pub four_roles : (kind : Kind) → roles_of kind ≤ 4
four_roles kind = let p = roles-test kind in grind (arith, nat_tests, p)

pub no_victim_is_spacing : (kind : Kind) → has_victim kind ≡ false → kind ≡ Spacing
no_victim_is_spacing Spacing h = refl
no_victim_is_spacing _ h = absurd (cc)

-- ---- the coefficients

abbrev is-small : ℤ → Bool
is-small c = nat_lt 0 (unsigned_abs c) && nat_le (unsigned_abs c) 8

small-list : (cs : List ℤ) → list_all is-small cs ≡ true → AllSmall cs
small-list cs h = λ k d q. let p = AllPass-from_list_all is-small cs h k d q in (grind (arith, nat_tests, p), grind (arith, nat_tests, p))

small-test : (kind : Kind) → list_all is-small (coefficients_of kind) ≡ true
small-test Spacing = refl
small-test _ = refl

pub all_small : (kind : Kind) → AllSmall (coefficients_of kind)
all_small kind = small-list (coefficients_of kind) (small-test kind)

-- ---- the margins and the texts

place-test : (margin : Margin) → nat_le (place_of margin) MARGINS ≡ true
place-test OfSpacing = refl
place-test _ = refl

pub place_within : (margin : Margin) → place_of margin ≤ MARGINS
place_within margin = let p = place-test margin in grind (arith, nat_tests, p)

pub kind_read : (kind : Kind) → kind_of (text_of kind) ≡ Some kind
kind_read Spacing = refl
kind_read _ = refl

-- ---- all of them

pub all_laws : KindLaws
all_laws = record {
  listed = kind_listed;
  two = two_roles;
  four = four_roles;
  among = kind_among;
  spacing = no_victim_is_spacing;
  victim = refl;
  places = place_within;
  read = kind_read;
  small = all_small;
  every = every_kind;
}
