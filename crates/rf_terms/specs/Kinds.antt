-- The rule table: a row is a kind, the coefficients of its form in the order of its roles, the order of its roles, its
-- margin and its text.
use Rattle.std.specs.Prelude.{◌<◌, ◌≤◌, ◌==◌, ℕ, ℤ, Bool, nat_lt, unsigned_abs, All, pos, negsuc, List, [], ◌∷◌, Option, Some, None, length, filter, find, codes}
use Rattle.std.specs.Str.{bytes_eq}
use Rattle.rf_terms.specs.declared.kind.Kind.{Kind}
use Rattle.rf_terms.specs.declared.kind.Kind.TheVariants.{Spacing, T3Two, T3Three, T5Two, T5ThreeA, T5ThreeB, T7Two}
use Rattle.rf_terms.specs.declared.kind.Margin.{Margin}
use Rattle.rf_terms.specs.declared.kind.Margin.TheVariants.{Spacing as OfSpacing, M2t3, M3t3, M2t5, M3t5, M2t7}

abbrev pub kinds : List Kind
kinds = Spacing ∷ T3Two ∷ T3Three ∷ T5Two ∷ T5ThreeA ∷ T5ThreeB ∷ T7Two ∷ []

abbrev pub coefficients_of : Kind → List ℤ
coefficients_of Spacing = pos 1 ∷ negsuc 0 ∷ []
coefficients_of T3Two = pos 2 ∷ negsuc 0 ∷ negsuc 0 ∷ []
coefficients_of T3Three = pos 1 ∷ pos 1 ∷ negsuc 0 ∷ negsuc 0 ∷ []
coefficients_of T5Two = pos 3 ∷ negsuc 1 ∷ negsuc 0 ∷ []
coefficients_of T5ThreeA = pos 3 ∷ negsuc 0 ∷ negsuc 0 ∷ negsuc 0 ∷ []
coefficients_of T5ThreeB = pos 2 ∷ pos 1 ∷ negsuc 1 ∷ negsuc 0 ∷ []
coefficients_of T7Two = pos 4 ∷ negsuc 2 ∷ negsuc 0 ∷ []

-- the two roles of which the first carrier stands before the second
abbrev pub order_of : Kind → Option (ℕ × ℕ)
order_of Spacing = Some (0, 1)
order_of T3Two = None
order_of T3Three = Some (0, 1)
order_of T5Two = None
order_of T5ThreeA = Some (1, 2)
order_of T5ThreeB = None
order_of T7Two = None

abbrev pub margin_of : Kind → Margin
margin_of Spacing = OfSpacing
margin_of T3Two = M2t3
margin_of T3Three = M3t3
margin_of T5Two = M2t5
margin_of T5ThreeA = M3t5
margin_of T5ThreeB = M3t5
margin_of T7Two = M2t7

-- where a margin stands among what a profile asks: its spacing, and then its margins
abbrev pub place_of : Margin → ℕ
place_of OfSpacing = 0
place_of M2t3 = 1
place_of M3t3 = 2
place_of M2t5 = 3
place_of M3t5 = 4
place_of M2t7 = 5

abbrev pub text_of : Kind → List ℕ
text_of Spacing = codes "spacing"
text_of T3Two = codes "2a-b"
text_of T3Three = codes "a+b-c"
text_of T5Two = codes "3a-2b"
text_of T5ThreeA = codes "3a-b-c"
text_of T5ThreeB = codes "2a+b-2c"
text_of T7Two = codes "4a-3b"

-- the kind with this text
abbrev pub kind_of : List ℕ → Option Kind
kind_of word = find (λ kind. bytes_eq word (text_of kind)) kinds

abbrev pub roles_of : Kind → ℕ
roles_of kind = length (coefficients_of kind)

-- the kinds with so many roles, in the order of the table
abbrev pub kinds_with : ℕ → List Kind
kinds_with n = filter (λ kind. roles_of kind == n) kinds

-- a kind whose last role is a victim
abbrev pub has_victim : Kind → Bool
has_victim kind = nat_lt 2 (roles_of kind)

-- a coefficient that a row may have
abbrev pub IsSmall : ℤ → Type 0
IsSmall c = (0 < unsigned_abs c) × (unsigned_abs c ≤ 8)

abbrev pub AllSmall : List ℤ → Type 0
AllSmall = All IsSmall
