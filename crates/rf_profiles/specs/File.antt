-- Profile files: what a TOML document says of profiles.
use Rattle.std.specs.Prelude.{ℕ, Bool, false, List, [], ◌∷◌, ◌++◌, ◌+◌, ◌||◌, not, if◌then◌else◌, Option, Some, None, Result, Ok, Err, option_and_then, ℤ, pos, negsuc, codes}
use Rattle.std.specs.Option.{ok_or}
use Rattle.std.specs.Result.{result_ok}
use Rattle.std.specs.Str.{bytes_eq, is_utf8}
use Rattle.toml.specs.Data.{Data, Items, no_items, item, Members, no_members, member, as_array, as_integer, as_table, get_member}
use Rattle.toml.specs.Parse.{parse_document}
use Rattle.rf_base.specs.Khz.{is_khz}
use Rattle.rf_base.specs.Name.{name_of}
use Rattle.rf_profiles.specs.Range.{Span, range_of}
use Rattle.rf_profiles.specs.Channels.{channels_of, with_range}
use Rattle.rf_profiles.specs.Profile.{is_width}
use Rattle.rf_profiles.specs.declared.profile.Margins.{Margins}
use Rattle.rf_profiles.specs.declared.profile.Profile.{Profile}
use Rattle.rf_profiles.specs.declared.fault.Field.{Field}
use Rattle.rf_profiles.specs.declared.fault.Field.TheVariants as f
use Rattle.rf_profiles.specs.declared.fault.ProfilesFault.{ProfilesFault}
use Rattle.rf_profiles.specs.declared.fault.ProfilesFault.TheVariants as fault

-- ---- numbers

-- a whole number that passes a test
abbrev pub number_where : (ℕ → Bool) → Option ℤ → Option ℕ
number_where test None = None
number_where test (Some (negsuc n)) = None
number_where test (Some (pos n)) = if test n then Some n else None

-- a spacing, a half width or a margin
unfoldable pub width_in : Data → Option ℕ
width_in d = number_where is_width (as_integer d)

-- a number of a range
unfoldable pub khz_in : Data → Option ℕ
khz_in d = number_where is_khz (as_integer d)

-- the width at a key that must be there
unfoldable pub width_at : List ℕ → Members → Option ℕ
width_at key ms = option_and_then width_in (get_member key ms)

abbrev pub width_or_zero : Option Data → Option ℕ
width_or_zero None = Some 0
width_or_zero (Some d) = width_in d

-- the width at a key, which is 0 where the key is missing
unfoldable pub width_or_zero_at : List ℕ → Members → Option ℕ
width_or_zero_at key ms = width_or_zero (get_member key ms)

-- ---- ranges

abbrev pub range_with : Option ℕ → Option ℕ → Option ℕ → Option Span
range_with from to step = option_and_then (λ a. option_and_then (λ b. option_and_then (λ c. range_of a b c) step) to) from

-- an element of `ranges`: an array of three numbers from, to and step
abbrev pub range_of_items : Items → Option Span
range_of_items (item a (item b (item c no_items))) = range_with (khz_in a) (khz_in b) (khz_in c)
range_of_items _ = None

unfoldable pub range_in : Data → Option Span
range_in d = option_and_then range_of_items (as_array d)

-- the channels so far, and those of one range more
unfoldable pub added : Option (List Span) → Span → Option (List Span)
added None r = channels_of r
added (Some rs) r = result_ok (with_range rs r)

-- the channels of the elements after those so far; there are none without a range
unfoldable pub channels_in : Option (List Span) → Items → Option (List Span)
channels_in so_far no_items = so_far
channels_in so_far (item d ds) = option_and_then (λ more. channels_in (Some more) ds) (option_and_then (added so_far) (range_in d))

unfoldable pub channels_at : Members → Option (List Span)
channels_at ms = option_and_then (channels_in None) (option_and_then as_array (get_member (codes "ranges") ms))

-- ---- profiles

-- the keys that a profile may have
unfoldable pub is_field : List ℕ → Bool
is_field key = bytes_eq key (codes "ranges") || bytes_eq key (codes "spacing") || bytes_eq key (codes "half")
    || bytes_eq key (codes "m2t3") || bytes_eq key (codes "m3t3") || bytes_eq key (codes "m2t5") || bytes_eq key (codes "m3t5")
    || bytes_eq key (codes "m2t7")

unfoldable pub has_further_key : Members → Bool
has_further_key no_members = false
has_further_key (member key d ms) = not (is_field key) || has_further_key ms

-- go on with the value, or keep the first error
abbrev pub and_then : {T U E : Type 0} → Result T E → (T → Result U E) → Result U E
and_then (Ok x) more = more x
and_then (Err e) more = Err e

-- the margins in a table, or the first field that is wrong
abbrev pub margins_at : Members → Result Margins Field
margins_at ms =
    and_then (ok_or (width_or_zero_at (codes "m2t3") ms) f.M2t3) (λ m2t3.
    and_then (ok_or (width_or_zero_at (codes "m3t3") ms) f.M3t3) (λ m3t3.
    and_then (ok_or (width_or_zero_at (codes "m2t5") ms) f.M2t5) (λ m2t5.
    and_then (ok_or (width_or_zero_at (codes "m3t5") ms) f.M3t5) (λ m3t5.
    and_then (ok_or (width_or_zero_at (codes "m2t7") ms) f.M2t7) (λ m2t7.
    Ok (record { m2t3 = m2t3; m3t3 = m3t3; m2t5 = m2t5; m3t5 = m3t5; m2t7 = m2t7 }))))))

-- the profile in a table, or the first field that is wrong
abbrev pub profile_with : List ℕ → Members → Result Profile Field
profile_with name ms =
    and_then (ok_or (channels_at ms) f.Ranges) (λ channels.
    and_then (ok_or (width_at (codes "spacing") ms) f.Spacing) (λ spacing.
    and_then (ok_or (width_or_zero_at (codes "half") ms) f.Half) (λ half.
    and_then (margins_at ms) (λ margins.
    if has_further_key ms then Err f.Other
    else Ok (record { name = name; channels = channels; spacing = spacing; half = half; margins = margins })))))

-- the profile at a key, or the first field that is wrong
unfoldable pub profile_at : List ℕ → Data → Result Profile Field
profile_at key d = and_then (ok_or (name_of key) f.Name) (λ name. and_then (ok_or (as_table d) f.Table) (profile_with name))

-- what comes of a member: a fault, or one profile more for the rest of the file
abbrev pub with_profile : Result Profile Field → ℕ → List Profile → (List Profile → Result (List Profile) ProfilesFault) → Result (List Profile) ProfilesFault
with_profile (Err field) number profiles more = Err (fault.BadProfile number field)
with_profile (Ok p) number profiles more = more (profiles ++ p ∷ [])

-- the profiles of the members from `number` on, after those so far
unfoldable pub profiles_from : ℕ → List Profile → Members → Result (List Profile) ProfilesFault
profiles_from number profiles no_members = Ok profiles
profiles_from number profiles (member key d ms) = with_profile (profile_at key d) number profiles (λ more. profiles_from (number + 1) more ms)

abbrev pub profiles_in : Option Members → Result (List Profile) ProfilesFault
profiles_in None = Err fault.Toml
profiles_in (Some ms) = profiles_from 1 [] ms

-- The profiles of a file: those of its document's members, which stand in the order of their keys, or the first fault.
unfoldable pub profiles_of : List ℕ → Result (List Profile) ProfilesFault
profiles_of bytes = if is_utf8 bytes then profiles_in (parse_document bytes) else Err fault.Toml
