-- Profile files: one element, one member and one document at a time.
use Rattle.std.proofs.Common.{◌≡◌, ◌≢◌, ◌<◌, ◌≤◌, ◌+◌, ◌∷◌, ◌++◌, [], ℕ, List, length, drop, get_or, Option, Some, None, Ok, Err, string_bytes, IsUtf8, refl, inl, inr, option_and_then}
use Rattle.std.proofs.lemmas.Bool.{cases_Bool}
use Rattle.std.proofs.lemmas.List.{drop_all}
use Rattle.std.proofs.lemmas.Str.{IsUtf8-from_is_utf8, is_utf8-from_IsUtf8}
use Rattle.std.specs.Str.{is_utf8}
use Rattle.toml.proofs.Views.{Entry, items_view-drop}
use Rattle.toml.specs.Data.{Members}
use Rattle.toml.specs.Parse.{parse_document}
use Rattle.toml.specs.View.{items_view, members_view, view}
use Rattle.toml.specs.declared.value.Value.{Value}
use Rattle.rf_profiles.specs.Range.{Span}
use Rattle.rf_profiles.specs.declared.fault.Field.{Field}
use Rattle.rf_profiles.specs.declared.fault.ProfilesFault.TheVariants.{BadProfile, Toml}
use Rattle.rf_profiles.specs.declared.profile.Profile.{Profile}
use Rattle.rf_profiles.specs.File.{added, channels_in, profile_at, profiles_from, profiles_of, range_in, range_of_items}

-- an array of another length is no range
pub not_three : (vs : List Value) → length vs ≢ 3 → range_of_items (items_view vs) ≡ None
not_three [] h = refl
not_three (a ∷ []) h = refl
not_three (a ∷ b ∷ []) h = refl
not_three (a ∷ b ∷ c ∷ []) h = absurd (h refl)
not_three (a ∷ b ∷ c ∷ d ∷ rest) h = refl

-- one element more of `ranges`
pub channels_step : (vs : List Value) (i : ℕ) (d : Value) (so_far : Option (List Span)) → i < length vs → d ≡ get_or vs i d
    → channels_in so_far (items_view (drop i vs)) ≡ option_and_then (λ more. channels_in (Some more) (items_view (drop (i + 1) vs))) (option_and_then (added so_far) (range_in (view d)))
unfolding channels_in
channels_step vs i d so_far inside is = rw (items_view-drop vs i d inside, ← is) refl

pub channels_done : (vs : List Value) (i : ℕ) (so_far : Option (List Span)) → length vs ≤ i → channels_in so_far (items_view (drop i vs)) ≡ so_far
unfolding channels_in
channels_done vs i so_far past = rw (drop_all i vs past) refl

-- one member more of a file
pub profile_bad : (es rest : List Entry) (e : Entry) (number : ℕ) (profiles : List Profile) (k : Field) → es ≡ e ∷ rest → profile_at (string_bytes e.0) (view e.1) ≡ Err k
    → profiles_from number profiles (members_view es) ≡ Err (BadProfile number k)
unfolding profiles_from
profile_bad es rest e number profiles k is bad = rw (is, bad) refl

pub profile_good : (es rest : List Entry) (e : Entry) (number : ℕ) (profiles : List Profile) (p : Profile) → es ≡ e ∷ rest → profile_at (string_bytes e.0) (view e.1) ≡ Ok p
    → profiles_from number profiles (members_view es) ≡ profiles_from (number + 1) (profiles ++ p ∷ []) (members_view rest)
unfolding profiles_from
profile_good es rest e number profiles p is good = rw (is, good) refl

pub profiles_done : (es : List Entry) (number : ℕ) (profiles : List Profile) → es ≡ [] → profiles_from number profiles (members_view es) ≡ Ok profiles
unfolding profiles_from
profiles_done es number profiles is = rw is refl

pub file_read : (bytes : List ℕ) (ms : Members) → IsUtf8 bytes × (parse_document bytes ≡ Some ms) → profiles_of bytes ≡ profiles_from 1 [] ms
unfolding profiles_of
file_read bytes ms (utf8, parsed) = rw (is_utf8-from_IsUtf8 bytes utf8, parsed) refl

pub file_refused : (bytes : List ℕ) → (IsUtf8 bytes → parse_document bytes ≡ None) → profiles_of bytes ≡ Err Toml
unfolding profiles_of
file_refused bytes h =
    elim (cases_Bool (is_utf8 bytes)) [ inl e ↦ rw (e, h (IsUtf8-from_is_utf8 bytes e)) refl | inr e ↦ rw e refl ]
