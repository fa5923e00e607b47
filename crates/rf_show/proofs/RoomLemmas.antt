use Rattle.std.proofs.Common.{◌≡◌, ℕ, ◌<◌, ◌≤◌, Bool, true, false, ◌&&◌, cond, List, [], ◌∷◌, ◌++◌, length, get_or, Some, None, Ok, Err, IsOk, IsSome, Option, Result, nat_le, refl, ap, sym, ◌∙◌}
use Rattle.std.specs.List.{position_or_len}
use Rattle.std.specs.Option.{option_map_or}
use Rattle.std.proofs.lemmas.Bool.{leb-false, leb-true, and_parts}
use Rattle.rf_exclusions.specs.declared.ban.Ban.{Ban}
use Rattle.rf_exclusions.specs.declared.scan_set.ScanSet.{ScanSet}
use Rattle.rf_profiles.specs.Channels.{with_range}
use Rattle.rf_profiles.specs.Range.{Span, span, range_of}
use Rattle.rf_profiles.specs.declared.channels.ChannelsFault.{ChannelsFault}
use Rattle.rf_profiles.specs.declared.channels.ChannelsFault.TheVariants.{NotRising, Many, Ninth}
use Rattle.rf_profiles.specs.declared.profile.Profile.{Profile}
use Rattle.rf_show.specs.declared.carrier.Carrier.{Carrier}
use Rattle.rf_show.specs.declared.change.Change.{Change}
use Rattle.rf_show.specs.declared.undo.Step.{Step}
use Rattle.rf_show.specs.declared.undo.Step.TheVariants.{Profiles, Carriers, Bans, Scans}
use Rattle.rf_show.specs.Change.{changed}
use Rattle.rf_show.specs.Limits.{most_bans, most_carriers, most_intervals, most_profiles, most_scans}
use Rattle.rf_show.specs.Reasons.{fault_reason, first_reason, named_range_reason, time_reasons}
use Rattle.rf_show.specs.Show.{ShowData, is_show, is_carrier, is_profile, profile_named}
use Rattle.rf_show.specs.Taken.{leads, step_fits, stepped}
use Rattle.rf_show.proofs.FirstLaws.{find_at}
use Rattle.rf_show.proofs.KeptLaws.{kept, profiles_kept, carriers_kept}
use Rattle.rf_show.proofs.ReasonLemmas.{none_holds}

led : (b : Bool) (s : ShowData) → IsSome (cond b (Some s) None) → b ≡ true
led true s h = refl
led false s h = cc

led_to : (b : Bool) (s t : ShowData) → IsSome (cond b (Some s) None) → t ≡ s → cond b (Some s) None ≡ Some t
led_to true s t h e = ap Some (sym e)
led_to false s t h e = cc

-- a step that leads somewhere leads to the show after it
pub leads_there : (s t : ShowData) (u : Step) → IsSome (leads s u) → t ≡ stepped s u → leads s u ≡ Some t
leads_there s t u h e = led_to (step_fits s u && is_show (stepped s u)) (stepped s u) t h e

-- where a step leads, there is a show
pub led_shown : (s : ShowData) (u : Step) → IsSome (leads s u) → is_show (stepped s u) ≡ true
led_shown s u h = (and_parts _ _ (led (step_fits s u && is_show (stepped s u)) (stepped s u) h)).1

-- so the lists aren't longer than a show's may be
pub profiles_room : (s : ShowData) (u : Step) (change : Change Profile) → IsSome (leads s u) → u ≡ Profiles change → length (changed s.profiles change) ≤ most_profiles
profiles_room s u change h e =
    (profiles_kept (changed s.profiles change) (kept _ (ap (λ u. is_show (stepped s u)) (sym e) ∙ led_shown s u h)).profiles).few

pub carriers_room : (s : ShowData) (u : Step) (change : Change Carrier) → IsSome (leads s u) → u ≡ Carriers change → length (changed s.carriers change) ≤ most_carriers
carriers_room s u change h e =
    (carriers_kept s.profiles s.zones (changed s.carriers change) (kept _ (ap (λ u. is_show (stepped s u)) (sym e) ∙ led_shown s u h)).carriers).few

pub bans_room : (s : ShowData) (u : Step) (change : Change Ban) → IsSome (leads s u) → u ≡ Bans change → length (changed s.bans change) ≤ most_bans
bans_room s u change h e =
    leb-true _ _ (and_parts _ _ (kept _ (ap (λ u. is_show (stepped s u)) (sym e) ∙ led_shown s u h)).bans).0

pub scans_room : (s : ShowData) (u : Step) (change : Change ScanSet) → IsSome (leads s u) → u ≡ Scans change → length (changed s.scans change) ≤ most_scans
scans_room s u change h e =
    leb-true _ _ (and_parts _ _ (kept _ (ap (λ u. is_show (stepped s u)) (sym e) ∙ led_shown s u h)).scans).0

-- a carrier that may have an interval more
pub time_room : (cs : List Carrier) (name : List ℕ) (from to : ℕ) (i : ℕ) (c : Carrier) → first_reason (time_reasons cs name from to) ≡ None →
    i ≡ position_or_len (is_carrier name) cs → i < length cs → c ≡ get_or cs i c → length c.times < most_intervals
time_room cs name from to i c h at within is =
    let none = none_holds (time_reasons cs name from to) h in
    let found = find_at (is_carrier name) cs i c at within is in
    leb-false _ _ (sym (ap (λ o. option_map_or (λ (c : Carrier). nat_le most_intervals (length c.times)) o false) found) ∙ none.1.1.0)

no_fault : (r : Result (List Span) ChannelsFault) → fault_reason r ≡ None → IsOk r
no_fault (Ok ranges) h = refl
no_fault (Err NotRising) h = cc
no_fault (Err Many) h = cc
no_fault (Err Ninth) h = cc

-- a range that makes no reason can be added
pub range_fits : (ps : List Profile) (name : List ℕ) (o : Option Span) (range : Span) (i : ℕ) (p : Profile) → named_range_reason (profile_named ps name) o ≡ None →
    o ≡ Some range → i ≡ position_or_len (is_profile name) ps → i < length ps → p ≡ get_or ps i p → IsOk (with_range p.channels range)
range_fits ps name o range i p h e at within is =
    no_fault _ (sym (ap (λ q. named_range_reason q o) (find_at (is_profile name) ps i p at within is) ∙ ap (named_range_reason (Some p)) e) ∙ h)

ok_cond : (a b c : Bool) (rs ts : List Span) → cond a (Err NotRising) (cond b (Err Many) (cond c (Err Ninth) (Ok rs))) ≡ Ok ts → ts ≡ rs
ok_cond true b c rs ts h = cc
ok_cond false true c rs ts h = cc
ok_cond false false true rs ts h = cc
ok_cond false false false rs ts h = cc

-- then it stands at the end
pub range_added : (rs ts : List Span) (r : Span) → with_range rs r ≡ Ok ts → ts ≡ rs ++ r ∷ []
range_added rs ts r h = ok_cond _ _ _ (rs ++ r ∷ []) ts h

some_range : (b : Bool) (r s : Span) → cond b (Some r) None ≡ Some s → s ≡ r
some_range true r s h = cc
some_range false r s h = cc

pub range_is : (from to step : ℕ) (r : Span) → range_of from to step ≡ Some r → r ≡ span from to step
range_is from to step r h = some_range _ (span from to step) r h
