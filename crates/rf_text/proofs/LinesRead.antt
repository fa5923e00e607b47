-- The lines of a show's text are read as its commands.
use Rattle.std.proofs.Common.{◌≡◌, ◌<◌, ◌≤◌, ◌+◌, ◌-◌, ◌++◌, ◌∙◌, ℕ, zero, suc, List, [], ◌∷◌, ◌&&◌, Bool, true, false, length, map, filter, drop, arith, refl, rules, Some, None, inl, inr}
use Rattle.std.specs.Prelude.{codes, nat_le, IfSome, option_and_then}
use Rattle.std.specs.declared.option.Option.{Option}
use Rattle.std.specs.List.{AllByRecursion, list_all, flat_map, range_with_len}
use Rattle.std.proofs.lemmas.Bool.{and_parts, cases_Bool, leb-true}
use Rattle.std.proofs.lemmas.Bool.Decides.{nat_tests}
use Rattle.rf_base.specs.FileName.{IsFileName}
use Rattle.rf_base.specs.Khz.{IsKhz}
use Rattle.rf_base.specs.Name.{IsName}
use Rattle.rf_exclusions.specs.declared.scan_set.ScanSet.{ScanSet}
use Rattle.rf_profiles.specs.Channels.{RisesFrom}
use Rattle.rf_profiles.specs.Profile.{widths}
use Rattle.rf_profiles.specs.Range.{IsRange, Span}
use Rattle.rf_profiles.specs.declared.profile.Profile.{Profile}
use Rattle.rf_zones.specs.Times.{is_interval}
use Rattle.rf_zones.specs.Zones.{ZonesData}
use Rattle.rf_zones.specs.declared.coupling.Coupling.{Coupling}
use Rattle.rf_zones.specs.declared.coupling.Coupling.TheVariants.{Apart, Coupled, Far}
use Rattle.rf_show.specs.declared.carrier.Carrier.{Carrier}
use Rattle.rf_show.specs.Limits.{widest, widest_scan}
use Rattle.rf_show.specs.Show.{ShowData, first_show, has_zone, is_narrow, is_scan, is_show, is_threshold}
use Rattle.rf_text.specs.declared.command.Command.{Command}
use Rattle.rf_text.specs.declared.command.Command.TheVariants.{Change}
use Rattle.rf_text.specs.CommandTexts.{command_text_of, command_words}
use Rattle.rf_text.specs.ShowLaw.{HotPointsOf, IsBan, IsCarrier, IsProfile, IsScan, IsWhole, LinesMakeShow, after_command, after_lines}
use Rattle.rf_text.specs.Shows.{at_lines, carrier_lines, couple_lines, coupling_edit, far_lines, lock_lines, pair_line, pairs_that, pairs_with, profile_lines, range_line, ranges_lines}
use Rattle.rf_text.specs.Shows.{scan_line, show_lines, stand, time_line, zone_line, zone_name, ban_line}
use Rattle.rf_text.proofs.CommandsBack.{IsBack, command_row_back, edit_back, line_in}
use Rattle.rf_text.proofs.ShapesBack.{IsFiled, IsNamed, IsShort, all_at, all_both}
use Rattle.rf_text.proofs.MadeLemmas.{made}
use Rattle.rf_text.proofs.ShowMade.{commands_make_show}

-- ---- one line

then_same : {A B : Type 0} (o : Option A) (f g : A → Option B) → ((x : A) → f x ≡ g x) → option_and_then f o ≡ option_and_then g o
then_same None f g h = refl
then_same (Some x) f g h = h x

lines_read : (hot : HotPointsOf) (s : ShowData) (commands : List Command) → AllByRecursion IsBack commands → after_lines hot s (map command_text_of commands) ≡ made hot s commands
lines_read hot s [] h = refl
lines_read hot s (command ∷ commands) h =
    rw (line_in (command_words command) command h.0.valid h.0.read) (then_same (after_command hot s command) _ _ (λ next. lines_read hot next commands h.1))

-- ---- all of a list

all_map : {X Y : Type 0} (P : X → Type 0) (Q : Y → Type 0) (f : X → Y) (xs : List X) → AllByRecursion P xs → ((x : X) → P x → Q (f x)) → AllByRecursion Q (map f xs)
all_map P Q f [] h k = tt
all_map P Q f (x ∷ xs) h k = (k x h.0, all_map P Q f xs h.1 k)

all_flat : {X Y : Type 0} (P : X → Type 0) (Q : Y → Type 0) (f : X → List Y) (xs : List X) → AllByRecursion P xs → ((x : X) → P x → AllByRecursion Q (f x)) → AllByRecursion Q (flat_map f xs)
all_flat P Q f [] h k = tt
all_flat P Q f (x ∷ xs) h k = all_both Q (f x) (flat_map f xs) (k x h.0) (all_flat P Q f xs h.1 k)

all_filter : {X : Type 0} (P : X → Type 0) (p : X → Bool) (xs : List X) → AllByRecursion P xs → AllByRecursion P (filter p xs)
all_filter P p [] h = tt
all_filter P p (x ∷ xs) h =
    let more = all_filter P p xs h.1 in
    elim (cases_Bool (p x)) [ inl on ↦ rw on (h.0, more) | inr off ↦ rw off more ]

all_by : {X : Type 0} (P : X → Type 0) (p : X → Bool) (xs : List X) → list_all p xs ≡ true → ((x : X) → p x ≡ true → P x) → AllByRecursion P xs
all_by P p [] h k = tt
all_by P p (x ∷ xs) h k = let q = and_parts (p x) (list_all p xs) h in (k x q.0, all_by P p xs q.1 k)

-- what a test says as well
all_tested : {X : Type 0} (P : X → Type 0) (p : X → Bool) (xs : List X) → list_all p xs ≡ true → AllByRecursion P xs → AllByRecursion (λ x. (p x ≡ true) × P x) xs
all_tested P p [] h k = tt
all_tested P p (x ∷ xs) h k = let q = and_parts (p x) (list_all p xs) h in ((q.0, k.0), all_tested P p xs q.1 k.1)

all_rest : {X : Type 0} (P : X → Type 0) (xs : List X) → AllByRecursion P xs → AllByRecursion P (drop 1 xs)
all_rest P [] h = tt
all_rest P (x ∷ xs) h = h.1

all_range : (from m n : ℕ) → from + m ≤ n → AllByRecursion (λ k. k < n) (range_with_len from m)
all_range from zero n h = tt
all_range from (suc m) n h = (omega arith, all_range (from + 1) m n (omega arith))

-- ---- what lines say

named : (name : List ℕ) → IsName name → IsNamed name
named name h = let allowed = h.allowed in rw allowed (grind (arith, nat_tests, h.nonempty, h.short))

filed : (name : List ℕ) → IsFileName name → IsFiled name
filed name h = let visible = h.visible in rw visible (grind (arith, nat_tests, h.nonempty, h.short))

short : (n : ℕ) → IsKhz n → IsShort n
short n h = omega (arith, h.0, h.1)

zone_named : (zones : ZonesData) (z : ℕ) → AllByRecursion IsName zones.names → z < length zones.names → IsNamed (zone_name zones z)
zone_named zones z h inside = named _ (all_at IsName zones.names z [] h inside)

pair_said : (c : Coupling) (a b : List ℕ) → IsNamed a → IsNamed b → IsBack (Change (coupling_edit c a b))
pair_said Apart a b h k = edit_back (codes "uncouple") (a, b) (h, k)
pair_said Coupled a b h k = edit_back (codes "couple") (a, b) (h, k)
pair_said Far a b h k = edit_back (codes "far") (a, b) (h, k)

pairs_with_said : (c : Coupling) (zones : ZonesData) → AllByRecursion IsName zones.names → (a : ℕ) → a < length zones.names → AllByRecursion IsBack (pairs_with c zones a)
pairs_with_said c zones names a inside =
    all_map (λ b. b < length zones.names) IsBack (pair_line c zones a) (filter (stand c zones a) (range_with_len (a + 1) (length zones.names - (a + 1))))
    (all_filter (λ b. b < length zones.names) (stand c zones a) _ (all_range (a + 1) (length zones.names - (a + 1)) (length zones.names) (omega arith)))
    (λ b h. pair_said c _ _ (zone_named zones a names inside) (zone_named zones b names h))

pairs_said : (c : Coupling) (zones : ZonesData) → AllByRecursion IsName zones.names → AllByRecursion IsBack (pairs_that c zones)
pairs_said c zones names =
    all_flat (λ a. a < length zones.names) IsBack (pairs_with c zones) (range_with_len 0 (length zones.names)) (all_range 0 (length zones.names) (length zones.names) (omega arith))
    (pairs_with_said c zones names)

rises_all : (last : ℕ) (ranges : List Span) → RisesFrom last ranges → AllByRecursion IsRange ranges
rises_all last [] h = tt
rises_all last (r ∷ ranges) h = (h.0, rises_all r.to ranges h.2)

ranges_said : (p : Profile) (ranges : List Span) → IsName p.name → is_narrow p ≡ true → AllByRecursion IsRange ranges → AllByRecursion IsBack (ranges_lines p ranges)
ranges_said p [] name narrow h = tt
ranges_said p (r ∷ ranges) name narrow h = (
  edit_back (codes "profile") (p.name, r.from ∷ r.to ∷ r.step ∷ widths p) (
    named p.name name,
    (
      refl,
      (
        short r.from h.0.low,
        (
          short r.to h.0.high,
          (
            short r.step h.0.stride,
            all_by IsShort (λ n. nat_le n widest) (widths p) narrow (λ n few. omega (arith, leb-true n widest few)),
          ),
        ),
      ),
    ),
  ),
  all_map IsRange IsBack (range_line p.name) ranges h.1 (λ q v. edit_back (codes "range") (p.name, (q.from, (q.to, q.step)))
      (named p.name name, (short q.from v.low, (short q.to v.high, short q.step v.stride)))),
)

if_named : (zone : Option (List ℕ)) → IfSome zone IsName → IfSome zone IsNamed
if_named None h = tt
if_named (Some zone) h = named zone h

scan_said : (zones : ZonesData) (scan : ScanSet) → (is_scan zones scan ≡ true) × IsScan scan → IsBack (scan_line scan)
scan_said zones scan (valid, h) =
    let p = and_parts (has_zone zones scan.zone && is_threshold scan.threshold) (nat_le scan.width widest_scan) valid in
    let q = and_parts (has_zone zones scan.zone) (is_threshold scan.threshold) p.0 in
    command_row_back (codes "scan") (scan.file, (scan.zone, (scan.threshold, (scan.width, scan.sep))))
    (filed scan.file h.file, (named scan.zone h.zone, (omega (arith, leb-true _ _ q.1), (omega (arith, leb-true scan.width widest_scan p.1), tt))))

at_said : (name : List ℕ) (at : Option ℕ) → IsNamed name → IfSome at IsKhz → AllByRecursion IsBack (at_lines name at)
at_said name None n h = tt
at_said name (Some khz) n h = (edit_back (codes "set") (name, khz) (n, short khz h), tt)

lock_said : (name : List ℕ) (locked : Bool) → IsNamed name → AllByRecursion IsBack (lock_lines name locked)
lock_said name true n = (edit_back (codes "lock") name n, tt)
lock_said name false n = tt

carrier_said : (c : Carrier) → IsCarrier c → AllByRecursion IsBack (carrier_lines c)
carrier_said c h =
    let n = named c.name h.name in (
      edit_back (codes "carrier") (c.name, (c.profile, c.zone)) (n, (named c.profile h.profile, named c.zone h.zone)),
      all_both IsBack (map (time_line c.name) c.times) (at_lines c.name c.at ++ lock_lines c.name c.locked) (all_map _ IsBack (time_line c.name) c.times
          (all_by (λ t. is_interval t ≡ true) is_interval c.times h.times.valid (λ t valid. valid))
          (λ t valid. edit_back (codes "time") (c.name, (t.0, t.1)) (n, (grind (arith, nat_tests), grind (arith, nat_tests)))))
          (all_both IsBack (at_lines c.name c.at) (lock_lines c.name c.locked) (at_said c.name c.at n h.at) (lock_said c.name c.locked n)),
    )

pub show_said : (show : ShowData) → IsWhole show → AllByRecursion IsBack (show_lines show)
unfolding is_show
show_said show w =
    let kept = w.kept in
    all_both IsBack (map zone_line (drop 1 show.zones.names)) _ (all_map IsName IsBack zone_line (drop 1 show.zones.names) (all_rest IsName show.zones.names w.zone_names)
    (λ name n. edit_back (codes "zone") name (named name n)))
    (all_both IsBack (couple_lines show.zones) _ (pairs_said Coupled show.zones w.zone_names)
    (all_both IsBack (far_lines show.zones) _ (pairs_said Far show.zones w.zone_names)
    (all_both IsBack (flat_map profile_lines show.profiles) _ (all_flat _ IsBack profile_lines show.profiles (all_tested IsProfile is_narrow show.profiles (search rules) w.profiles)
    (λ p h. ranges_said p p.channels h.1.0 h.0 (rises_all 0 p.channels h.1.1.rising)))
    (all_both IsBack (map ban_line show.bans) _ (all_map IsBan IsBack ban_line show.bans w.bans
    (λ b h. edit_back (codes "ban") (b.lo, (b.hi, b.zone)) (short b.lo h.low, (short b.hi h.high, if_named b.zone h.zone))))
    (all_both IsBack (map scan_line show.scans) (flat_map carrier_lines show.carriers)
    (all_map _ IsBack scan_line show.scans (all_tested IsScan (is_scan show.zones) show.scans (search rules) w.scans) (scan_said show.zones))
    (all_flat IsCarrier IsBack carrier_lines show.carriers w.carriers carrier_said))))))

pub lines_make : LinesMakeShow
lines_make hot show w = lines_read hot first_show (show_lines show) (show_said show w.whole) ∙ commands_make_show hot show w
