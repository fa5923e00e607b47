use Rattle.std.proofs.Common.{◌≡◌, ℕ, zero, suc, ◌-◌, ◌<◌, ◌≤◌, Bool, true, false, not, ◌&&◌, ◌||◌, cond, is_some, List, [], ◌∷◌, length, drop, slice_index, nat_le, Some, None, Option, refl}
use Rattle.std.proofs.Common.{ap, sym, ◌∙◌, arith, le-leb, leb-true, leb-false, ltb-false}
use Rattle.std.specs.Option.{option_and_then, option_map_or}
use Rattle.std.specs.List.{list_all}
use Rattle.std.proofs.lemmas.Bool.{and_from, and_parts}
use Rattle.rf_profiles.specs.Channels.{channels_of}
use Rattle.rf_profiles.specs.Profile.{is_width, profile_of, profile_with, widths}
use Rattle.rf_profiles.specs.Range.{Span, range_of}
use Rattle.rf_profiles.specs.declared.profile.Profile.{Profile}
use Rattle.rf_exclusions.specs.declared.ban.Ban.{Ban}
use Rattle.rf_exclusions.specs.declared.scan_set.ScanSet.{ScanSet}
use Rattle.rf_zones.specs.declared.coupling.Coupling.TheVariants.{Apart, Coupled, Far as CoupledFar}
use Rattle.rf_show.specs.declared.carrier.Carrier.{Carrier}
use Rattle.rf_show.specs.declared.edit.Edit.{Edit}
use Rattle.rf_show.specs.declared.edit.Edit.TheVariants.{AddProfile, AddProfiles, AddRange, DropProfile, AddZone, Couple, Uncouple, Far, AddCarrier, Remove, AddTime, Always, SetAt, Clear}
use Rattle.rf_show.specs.declared.edit.Edit.TheVariants.{Lock, Unlock, AddBan, Unban, AddScan, Unscan, Place}
use Rattle.rf_show.specs.declared.undo.Step.{Step}
use Rattle.rf_show.specs.Limits.{most_profiles, widest}
use Rattle.rf_show.specs.After.{change_first, edited, is_edit, new_carrier, new_scan, reasons, refusal, with_some}
use Rattle.rf_show.specs.Show.{ShowData, is_show, are_bans, are_carriers, are_scans, belongs, has_profile, is_carrier, is_narrow, is_steady, carrier_named, zone_number}
use Rattle.rf_show.specs.Taken.{leads, step_fits, stepped}
use Rattle.rf_show.proofs.FirstLaws.{find_any}
use Rattle.rf_show.proofs.KeptLaws.{Kept, kept, is_kept}
use Rattle.rf_show.proofs.ListLemmas.{list_all-wider, not_false}
use Rattle.rf_show.proofs.ReasonLemmas.{none_holds}
use Rattle.rf_show.proofs.EditedLemmas.{change_carrier_kept, remove_carrier_kept, add_carrier_kept, place_kept, change_profile_kept, drop_profile_kept, add_profiles_kept, add_ban_kept}
use Rattle.rf_show.proofs.EditedLemmas.{remove_ban_kept, add_scan_kept, remove_scan_kept, add_zone_kept, couple_kept}
use mathlib.Core.Bool.{or-true}

-- a width that a text may give is none too large for a show
width_narrow : (n : ℕ) → is_width n ≡ true → nat_le n widest ≡ true
width_narrow n h = let most : n ≤ 100000 = leb-true _ _ h in le-leb _ _ (omega arith)

width_at : (ns : List ℕ) (m k : ℕ) → list_all is_width (drop m ns) ≡ true → m ≤ k → nat_le (slice_index ns k) widest ≡ true
width_at [] m k h l = refl
width_at (n ∷ ns) zero zero h l = width_narrow n (and_parts _ _ h).0
width_at (n ∷ ns) zero (suc k) h l = width_at ns zero k (and_parts _ _ h).1 (omega arith)
width_at (n ∷ ns) (suc m) zero h l = absurd (omega arith)
width_at (n ∷ ns) (suc m) (suc k) h l = width_at ns m k h (omega arith)

narrow_with : (name ns : List ℕ) (ranges : List Span) → list_all is_width (drop 3 ns) ≡ true → is_narrow (profile_with name ns ranges) ≡ true
narrow_with name ns ranges h =
    and_from _ _ (width_at ns 3 3 h (omega arith))
    (and_from _ _ (width_at ns 3 4 h (omega arith))
    (and_from _ _ (width_at ns 3 5 h (omega arith))
    (and_from _ _ (width_at ns 3 6 h (omega arith))
    (and_from _ _ (width_at ns 3 7 h (omega arith))
    (and_from _ _ (width_at ns 3 8 h (omega arith))
    (and_from _ _ (width_at ns 3 9 h (omega arith)) refl))))))

-- a profile of this name whose widths are none too large, where there is one
abbrev pub Made : List ℕ → Option Profile → Type 0
Made name None = Unit {0}
Made name (Some p) = (p.name ≡ name) × (is_narrow p ≡ true)

made_channels : (name ns : List ℕ) (o : Option (List Span)) → list_all is_width (drop 3 ns) ≡ true → Made name (option_and_then (λ channels. Some (profile_with name ns channels)) o)
made_channels name ns None h = tt
made_channels name ns (Some channels) h = (refl, narrow_with name ns channels h)

made_range : (name ns : List ℕ) (o : Option Span) → list_all is_width (drop 3 ns) ≡ true →
    Made name (option_and_then (λ range. option_and_then (λ channels. Some (profile_with name ns channels)) (channels_of range)) o)
made_range name ns None h = tt
made_range name ns (Some range) h = made_channels name ns (channels_of range) h

made_cond : (name : List ℕ) (b : Bool) (o : Option Profile) → (b ≡ true → Made name o) → Made name (cond b o None)
made_cond name true o h = h refl
made_cond name false o h = tt

made : (name ns : List ℕ) → Made name (profile_of name ns)
made name ns = made_cond name (list_all is_width (drop 3 ns)) _ (made_range name ns (range_of (slice_index ns 0) (slice_index ns 1) (slice_index ns 2)))

new_profile_kept : (s : ShowData) (name : List ℕ) (o : Option Profile) → Kept s → length s.profiles < most_profiles →
    has_profile s.profiles name ≡ false → Made name o → Kept (record s { profiles = with_some s.profiles o })
new_profile_kept s name None k room new m = k
new_profile_kept s name (Some p) k room new m =
    add_profiles_kept s (p ∷ []) k (omega arith)
    (ap (λ n. has_profile s.profiles n || false) m.0 ∙ ap (λ b. b || false) new) refl (and_from _ _ m.1 refl)

carriers_only : (s : ShowData) (cs : List Carrier) → Kept s → are_carriers s.profiles s.zones cs ≡ true → Kept (record s { carriers = cs })
carriers_only s cs k h = record { profiles = k.profiles; carriers = h; bans = k.bans; scans = k.scans }

carrier_only : (s : ShowData) (name : List ℕ) (f : Carrier → Carrier) → Kept s → ((c : Carrier) → (f c).name ≡ c.name) →
    ((c : Carrier) → belongs s.profiles s.zones (f c) ≡ belongs s.profiles s.zones c) →
    ((c : Carrier) → carrier_named s.carriers name ≡ Some c → is_steady c ≡ true → is_steady (f c) ≡ true) → Kept (record s { carriers = change_first (is_carrier name) f s.carriers })
carrier_only s name f k names there steady =
    carriers_only s (change_first (is_carrier name) f s.carriers) k (change_carrier_kept s.profiles s.zones s.carriers name f k.carriers names there steady)

or_not : (a b : Bool) → a ≡ false → (not a || b) ≡ true
or_not a b h = rw h refl

-- what a question about the named carrier answers
of_named : (cs : List Carrier) (name : List ℕ) (test : Carrier → Bool) (c : Carrier) (b : Bool) → option_map_or test (carrier_named cs name) false ≡ b → carrier_named cs name ≡ Some c → test c ≡ b
of_named cs name test c b h found = sym (ap (λ o. option_map_or test o false) found) ∙ h

bans_only : (s : ShowData) (bans : List Ban) → Kept s → are_bans s.zones bans ≡ true → Kept (record s { bans = bans })
bans_only s bans k h = record { profiles = k.profiles; carriers = k.carriers; bans = h; scans = k.scans }

scans_only : (s : ShowData) (scans : List ScanSet) → Kept s → are_scans s.zones scans ≡ true → Kept (record s { scans = scans })
scans_only s scans k h = record { profiles = k.profiles; carriers = k.carriers; bans = k.bans; scans = h }

-- a number from 1 on, as a place
pub number_within : (number count : ℕ) → (nat_le 1 number && nat_le number count) ≡ true → number - 1 < count
number_within number count h =
    let parts = and_parts _ _ h in
    let low : 1 ≤ number = leb-true _ _ parts.0 in
    let high : number ≤ count = leb-true _ _ parts.1 in
    omega arith

-- what an edit makes of a show is a show, where there is no reason against it
edited_kept : (s : ShowData) (e : Edit) → Kept s → is_edit e ≡ true → refusal s e ≡ None → Kept (edited s e)
edited_kept s (AddProfile name numbers) k ok h =
    let none = none_holds (reasons s (AddProfile name numbers)) h in
    new_profile_kept s name (profile_of name numbers) k (leb-false _ _ none.1.1.0) none.0 (made name numbers)
edited_kept s (AddProfiles list) k ok h =
    let none = none_holds (reasons s (AddProfiles list)) h in
    let given = and_parts _ _ ok in
    add_profiles_kept s list k (ltb-false _ _ none.1.0) none.0 given.1
    (list_all-wider (λ p. list_all is_width (widths p)) is_narrow list
    (λ p. list_all-wider is_width (λ n. nat_le n widest) (widths p) width_narrow) given.0)
edited_kept s (AddRange name from to step) k ok h = change_profile_kept s name _ k (λ p. refl) (λ p. refl)
edited_kept s (DropProfile name) k ok h =
    let none = none_holds (reasons s (DropProfile name)) h in
    drop_profile_kept s name k none.1.0
edited_kept s (AddZone name) k ok h = add_zone_kept s name k
edited_kept s (Couple a b) k ok h = couple_kept s (zone_number s.zones a) (zone_number s.zones b) Coupled k
edited_kept s (Uncouple a b) k ok h = couple_kept s (zone_number s.zones a) (zone_number s.zones b) Apart k
edited_kept s (Far a b) k ok h = couple_kept s (zone_number s.zones a) (zone_number s.zones b) CoupledFar k
edited_kept s (AddCarrier name profile zone) k ok h =
    let none = none_holds (reasons s (AddCarrier name profile zone)) h in
    carriers_only s _ k
    (add_carrier_kept s.profiles s.zones s.carriers (new_carrier name profile zone) k.carriers (leb-false _ _ none.1.1.1.0)
    (sym (find_any (is_carrier name) s.carriers) ∙ none.1.1.0)
    (and_from _ _ (not_false _ none.0) (not_false _ none.1.0)) refl)
edited_kept s (Remove name) k ok h = carriers_only s _ k (remove_carrier_kept s.profiles s.zones s.carriers name k.carriers)
edited_kept s (AddTime name from to) k ok h = carrier_only s name _ k (λ c. refl) (λ c. refl) (λ c found steady. steady)
edited_kept s (Always name) k ok h = carrier_only s name _ k (λ c. refl) (λ c. refl) (λ c found steady. steady)
edited_kept s (SetAt name khz) k ok h = carrier_only s name _ k (λ c. refl) (λ c. refl) (λ c found steady. or-true (not c.locked))
edited_kept s (Clear name) k ok h =
    let none = none_holds (reasons s (Clear name)) h in
    carrier_only s name _ k (λ c. refl) (λ c. refl)
    (λ c found steady. or_not c.locked _ (of_named s.carriers name (λ c. c.locked) c false none.1.0 found))
edited_kept s (Lock name) k ok h =
    let none = none_holds (reasons s (Lock name)) h in
    carrier_only s name _ k (λ c. refl) (λ c. refl)
    (λ c found steady. of_named s.carriers name (λ c. is_some c.at) c true (not_false _ none.1.0) found)
edited_kept s (Unlock name) k ok h = carrier_only s name _ k (λ c. refl) (λ c. refl) (λ c found steady. refl)
edited_kept s (AddBan lo hi zone) k ok h =
    let none = none_holds (reasons s (AddBan lo hi zone)) h in
    bans_only s _ k
    (add_ban_kept s.zones s.bans (record { lo = lo; hi = hi; zone = zone }) k.bans (leb-false _ _ none.1.1.0)
    (and_from _ _ (not_false _ none.0) (and_parts _ _ (not_false _ none.1.0)).1))
edited_kept s (Unban number) k ok h =
    let none = none_holds (reasons s (Unban number)) h in
    bans_only s _ k (remove_ban_kept s.zones s.bans (number - 1) k.bans (number_within number (length s.bans) (not_false _ none.0)))
edited_kept s (AddScan file sep zone threshold width hot) k ok h =
    let none = none_holds (reasons s (AddScan file sep zone threshold width hot)) h in
    let numbers = and_parts _ _ (not_false _ none.1.0) in
    scans_only s _ k
    (add_scan_kept s.zones s.scans (new_scan file sep zone threshold width hot) k.scans (leb-false _ _ none.1.1.0)
    (and_from _ _ (and_from _ _ (not_false _ none.0) numbers.0) numbers.1))
edited_kept s (Unscan number) k ok h =
    let none = none_holds (reasons s (Unscan number)) h in
    scans_only s _ k (remove_scan_kept s.zones s.scans (number - 1) k.scans (number_within number (length s.scans) (not_false _ none.0)))
edited_kept s (Place ats) k ok h =
    let none = none_holds (reasons s (Place ats)) h in
    carriers_only s _ k (place_kept s.profiles s.zones s.carriers ats k.carriers none.1.0)

-- a step leads where it fits, and to a show
pub leads_to : (t s : ShowData) (u : Step) → step_fits t u ≡ true → stepped t u ≡ s → is_show s ≡ true → leads t u ≡ Some s
leads_to t s u fit is shown =
    let ok : (step_fits t u && is_show (stepped t u)) ≡ true = and_from _ _ fit (ap is_show is ∙ shown) in
    ap (λ b. cond b (Some (stepped t u)) None) ok ∙ ap Some is

-- a step that makes an admitted edit leads to the edited show
pub edit_leads : (s : ShowData) (e : Edit) (u : Step) → is_show s ≡ true → is_edit e ≡ true → refusal s e ≡ None → step_fits s u ≡ true → stepped s u ≡ edited s e → leads s u ≡ Some (edited s e)
edit_leads s e u shown ok h fit is =
    leads_to s (edited s e) u fit is (is_kept (edited s e) (edited_kept s e (kept s shown) ok h))
