-- What every row of the rule table keeps.
use Rattle.std.specs.Prelude.{◌≡◌, ◌≤◌, ◌++◌, false, Contains, Some}
use Rattle.rf_terms.specs.declared.kind.TheConstants.{MARGINS}
use Rattle.rf_terms.specs.declared.kind.Kind.{Kind}
use Rattle.rf_terms.specs.declared.kind.Kind.TheVariants.{Spacing}
use Rattle.rf_terms.specs.declared.kind.Margin.{Margin}
use Rattle.rf_terms.specs.Kinds.{AllSmall, coefficients_of, has_victim, kind_of, kinds, kinds_with, place_of, roles_of, text_of}

pub record KindLaws : Type 0 where
  pub listed : (kind : Kind) → Contains kinds kind
  pub two : (kind : Kind) → 2 ≤ roles_of kind
  pub four : (kind : Kind) → roles_of kind ≤ 4
  pub among : (kind : Kind) → Contains (kinds_with (roles_of kind)) kind
  -- spacing alone has no victim
  pub spacing : (kind : Kind) → has_victim kind ≡ false → kind ≡ Spacing
  pub victim : has_victim Spacing ≡ false
  pub places : (margin : Margin) → place_of margin ≤ MARGINS
  -- no two kinds have the same text
  pub read : (kind : Kind) → kind_of (text_of kind) ≡ Some kind
  pub small : (kind : Kind) → AllSmall (coefficients_of kind)
  -- the kinds of two, of three and of four roles are all
  pub every : (kind : Kind) → Contains (kinds_with 2 ++ (kinds_with 3 ++ kinds_with 4)) kind
