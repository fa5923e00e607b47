use Rattle.std.specs.Prelude.{ℕ, Bool, true, List, [], ◌∷◌, ◌&&◌, ◌+◌, zero, suc, not, map, Option, Some, None, nat_le, slice_index, drop, if◌then◌else◌}
use Rattle.std.specs.Option.{option_and_then}
use Rattle.std.specs.List.{list_all, list_any}
use Rattle.rf_base.specs.Name.{same_name}
use Rattle.rf_profiles.specs.Range.{Span, range_of}
use Rattle.rf_profiles.specs.Channels.{channels_of}
use Rattle.rf_profiles.specs.declared.profile.Margins.{Margins}
use Rattle.rf_profiles.specs.declared.profile.Profile.{Profile}
use Rattle.rf_terms.specs.declared.kind.Kind.{Kind}
use Rattle.rf_terms.specs.declared.kind.Margin.{Margin}
use Rattle.rf_terms.specs.Kinds as terms

-- a spacing, a half width or a margin, as a text may give it
abbrev pub is_width : ℕ → Bool
is_width n = nat_le n 100000

-- the profile with these channels and, after three other numbers, its spacing, its half width and its margins
abbrev pub profile_with : List ℕ → List ℕ → List Span → Profile
profile_with name ns channels = record {
  name = name;
  channels = channels;
  spacing = slice_index ns 3;
  half = slice_index ns 4;
  margins = record { m2t3 = slice_index ns 5; m3t3 = slice_index ns 6; m2t5 = slice_index ns 7; m3t5 = slice_index ns 8; m2t7 = slice_index ns 9 };
}

-- The profile with these numbers: from, to, step, spacing, half and the margins. None where they make none.
abbrev pub profile_of : List ℕ → List ℕ → Option Profile
profile_of name ns =
    if list_all is_width (drop 3 ns)
    then option_and_then (λ range. option_and_then (λ channels. Some (profile_with name ns channels)) (channels_of range))
    (range_of (slice_index ns 0) (slice_index ns 1) (slice_index ns 2))
    else None

abbrev pub margin_widths : Margins → List ℕ
margin_widths m = m.m2t3 ∷ m.m3t3 ∷ m.m2t5 ∷ m.m3t5 ∷ m.m2t7 ∷ []

-- the spacing, the half width and the margins of a profile
abbrev pub widths : Profile → List ℕ
widths p = p.spacing ∷ p.half ∷ margin_widths p.margins

-- whether no two names of a list are the same
abbrev pub differ : List (List ℕ) → Bool
differ [] = true
differ (name ∷ names) = not (list_any (same_name name) names) && differ names

abbrev pub profile_names : List Profile → List (List ℕ)
profile_names profiles = map (λ p. p.name) profiles

-- what a profile asks: its spacing, and then its margins
abbrev pub asks : Profile → List ℕ
asks p = p.spacing ∷ margin_widths p.margins

-- what a profile asks of the form of a kind
abbrev pub asked : Profile → Margin → ℕ
asked p margin = slice_index (asks p) (terms.place_of margin)

abbrev pub margin_of : Profile → Kind → ℕ
margin_of p kind = asked p (terms.margin_of kind)

-- a width that asks something asks for so much more
abbrev pub wider : ℕ → ℕ → ℕ
wider extra zero = zero
wider extra (suc n) = suc n + extra

abbrev pub wider_margins : ℕ → Margins → Margins
wider_margins extra m = record {
  m2t3 = wider extra m.m2t3;
  m3t3 = wider extra m.m3t3;
  m2t5 = wider extra m.m2t5;
  m3t5 = wider extra m.m3t5;
  m2t7 = wider extra m.m2t7;
}

-- the profile that asks for so much more: its half width and its channels stay
abbrev pub wider_profile : ℕ → Profile → Profile
wider_profile extra p = record p { spacing = wider extra p.spacing; margins = wider_margins extra p.margins }
