use Rattle.std.specs.Prelude.{ℕ, Bool, true, false, List, [], ◌∷◌, ◌++◌, ◌-◌, ◌&&◌, length, remove, Option, Some, None, Result, Ok, Err, if◌then◌else◌}
use Rattle.std.specs.List.{list_all}
use Rattle.rf_base.specs.declared.decimal.Decimal.{Decimal}
use Rattle.rf_exclusions.specs.declared.scan_set.ScanSet.{ScanSet}
use Rattle.rf_exclusions.specs.declared.scan_set.Sep.{Sep}
use Rattle.rf_profiles.specs.Profile.{profile_of, differ, is_width, profile_names, widths}
use Rattle.rf_profiles.specs.Range.{span, range_of}
use Rattle.rf_profiles.specs.declared.profile.Profile.{Profile}
use Rattle.rf_zones.specs.Zones.{with_zone, with_coupling}
use Rattle.rf_zones.specs.declared.coupling.Coupling.{Coupling}
use Rattle.rf_zones.specs.declared.coupling.Coupling.TheVariants.{Apart, Coupled}
use Rattle.rf_zones.specs.declared.coupling.Coupling.TheVariants.{Far as CoupledFar}
use Rattle.rf_show.specs.declared.carrier.Carrier.{Carrier}
use Rattle.rf_show.specs.declared.edit.Edit.{Edit}
use Rattle.rf_show.specs.declared.edit.Edit.TheVariants.{AddProfile, AddProfiles, AddRange, DropProfile, AddZone, Couple, Uncouple, Far, AddCarrier, Remove, AddTime, Always, SetAt, Clear, Lock}
use Rattle.rf_show.specs.declared.edit.Edit.TheVariants.{Unlock, AddBan, Unban, AddScan, Unscan, Place}
use Rattle.rf_show.specs.declared.refusal.Refusal.{Refusal}
use Rattle.rf_show.specs.Reasons.{first_reason, new_profile_reasons, new_profiles_reasons, range_reasons, drop_profile_reasons, new_zone_reasons, coupling_reasons, new_carrier_reasons, named_reasons}
use Rattle.rf_show.specs.Reasons.{unlocked_reasons, set_reasons, lock_reasons, time_reasons, place_reasons, new_ban_reasons, new_scan_reasons, numbered_reasons}
use Rattle.rf_show.specs.Show.{ShowData, is_carrier, is_profile, zone_number}

-- the first element that passes, changed by f
abbrev pub change_first : {X : Type 0} → (X → Bool) → (X → X) → List X → List X
change_first p f [] = []
change_first p f (x ∷ xs) = if p x then f x ∷ xs else x ∷ change_first p f xs

-- the list without the first element that passes
abbrev pub remove_first : {X : Type 0} → (X → Bool) → List X → List X
remove_first p [] = []
remove_first p (x ∷ xs) = if p x then xs else x ∷ remove_first p xs

-- the carriers at these frequencies, in order
abbrev pub placed : List Carrier → List (Option ℕ) → List Carrier
placed [] ats = []
placed (c ∷ cs) [] = c ∷ cs
placed (c ∷ cs) (at ∷ ats) = record c { at = at } ∷ placed cs ats

-- what an edit brings that is never refused: profiles of different names, with widths that a text may give
abbrev pub is_edit : Edit → Bool
is_edit (AddProfiles list) = list_all (λ p. list_all is_width (widths p)) list && differ (profile_names list)
is_edit _ = true

-- the reasons against an edit, in the order in which they are named, each with whether it holds
abbrev pub reasons : ShowData → Edit → List (Bool × Refusal)
reasons show (AddProfile name numbers) = new_profile_reasons show.profiles name numbers
reasons show (AddProfiles list) = new_profiles_reasons show.profiles list
reasons show (AddRange name from to step) = range_reasons show.profiles show.carriers name (range_of from to step)
reasons show (DropProfile name) = drop_profile_reasons show.profiles show.carriers name
reasons show (AddZone name) = new_zone_reasons show.zones name
reasons show (Couple a b) = coupling_reasons show.zones a b
reasons show (Uncouple a b) = coupling_reasons show.zones a b
reasons show (Far a b) = coupling_reasons show.zones a b
reasons show (AddCarrier name profile zone) = new_carrier_reasons show.profiles show.zones show.carriers name profile zone
reasons show (Remove name) = unlocked_reasons show.carriers name
reasons show (AddTime name from to) = time_reasons show.carriers name from to
reasons show (Always name) = named_reasons show.carriers name
reasons show (SetAt name khz) = set_reasons show.carriers name khz
reasons show (Clear name) = unlocked_reasons show.carriers name
reasons show (Lock name) = lock_reasons show.carriers name
reasons show (Unlock name) = named_reasons show.carriers name
reasons show (AddBan lo hi zone) = new_ban_reasons show.zones show.bans lo hi zone
reasons show (Unban number) = numbered_reasons (length show.bans) number
reasons show (AddScan file sep zone threshold width hot) = new_scan_reasons show.zones show.scans zone threshold width
reasons show (Unscan number) = numbered_reasons (length show.scans) number
reasons show (Place ats) = place_reasons show.carriers ats

-- the first reason against an edit
abbrev pub refusal : ShowData → Edit → Option Refusal
refusal show edit = first_reason (reasons show edit)

-- the list and what there is at its end
abbrev pub with_some : {X : Type 0} → List X → Option X → List X
with_some xs None = xs
with_some xs (Some x) = xs ++ x ∷ []

abbrev pub change_carrier : ShowData → List ℕ → (Carrier → Carrier) → ShowData
change_carrier show name f = record show { carriers = change_first (is_carrier name) f show.carriers }

abbrev pub change_profile : ShowData → List ℕ → (Profile → Profile) → ShowData
change_profile show name f = record show { profiles = change_first (is_profile name) f show.profiles }

-- the show where two zones stand so to each other
abbrev pub with_coupled : ShowData → List ℕ → List ℕ → Coupling → ShowData
with_coupled show a b coupling =
    record show { zones = with_coupling show.zones (zone_number show.zones a) (zone_number show.zones b) coupling }

-- a carrier as it is added
abbrev pub new_carrier : List ℕ → List ℕ → List ℕ → Carrier
new_carrier name profile zone =
    record { name = name; profile = profile; zone = zone; times = []; at = None; locked = false }

abbrev pub new_scan : List ℕ → Sep → List ℕ → Decimal → ℕ → List ℕ → ScanSet
new_scan file sep zone threshold width hot =
    record { file = file; sep = sep; zone = zone; threshold = threshold; width = width; hot = hot }

-- the show that an edit makes
abbrev pub edited : ShowData → Edit → ShowData
edited show (AddProfile name numbers) = record show { profiles = with_some show.profiles (profile_of name numbers) }
edited show (AddProfiles list) = record show { profiles = show.profiles ++ list }
edited show (AddRange name from to step) =
    change_profile show name (λ p. record p { channels = p.channels ++ span from to step ∷ [] })
edited show (DropProfile name) = record show { profiles = remove_first (is_profile name) show.profiles }
edited show (AddZone name) = record show { zones = with_zone show.zones name }
edited show (Couple a b) = with_coupled show a b Coupled
edited show (Uncouple a b) = with_coupled show a b Apart
edited show (Far a b) = with_coupled show a b CoupledFar
edited show (AddCarrier name profile zone) =
    record show { carriers = show.carriers ++ new_carrier name profile zone ∷ [] }
edited show (Remove name) = record show { carriers = remove_first (is_carrier name) show.carriers }
edited show (AddTime name from to) = change_carrier show name (λ c. record c { times = c.times ++ (from, to) ∷ [] })
edited show (Always name) = change_carrier show name (λ c. record c { times = [] })
edited show (SetAt name khz) = change_carrier show name (λ c. record c { at = Some khz })
edited show (Clear name) = change_carrier show name (λ c. record c { at = None })
edited show (Lock name) = change_carrier show name (λ c. record c { locked = true })
edited show (Unlock name) = change_carrier show name (λ c. record c { locked = false })
edited show (AddBan lo hi zone) = record show { bans = show.bans ++ record { lo = lo; hi = hi; zone = zone } ∷ [] }
edited show (Unban number) = record show { bans = remove show.bans (number - 1) }
edited show (AddScan file sep zone threshold width hot) =
    record show { scans = show.scans ++ new_scan file sep zone threshold width hot ∷ [] }
edited show (Unscan number) = record show { scans = remove show.scans (number - 1) }
edited show (Place ats) = record show { carriers = placed show.carriers ats }

-- the show after an edit, or the first reason against it
abbrev pub after_unless : Option Refusal → ShowData → Result ShowData Refusal
after_unless None show = Ok show
after_unless (Some reason) show = Err reason

abbrev pub after : ShowData → Edit → Result ShowData Refusal
after show edit = after_unless (refusal show edit) (edited show edit)
