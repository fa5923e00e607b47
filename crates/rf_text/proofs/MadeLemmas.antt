-- What commands make of a show, one after another.
use Rattle.std.proofs.Common.{◌≡◌, ◌<◌, ◌≤◌, ◌++◌, ℕ, List, [], ◌∷◌, ◌&&◌, Bool, true, false, length, length-append, map, append-nil, append_assoc, arith, refl, Some, nat_le}
use Rattle.std.specs.declared.option.Option.{Option}
use Rattle.std.specs.Option.{option_and_then}
use Rattle.std.specs.List.{AllByRecursion, list_all, flat_map}
use Rattle.std.proofs.lemmas.Bool.{and_parts}
use Rattle.std.proofs.lemmas.Bool.Decides.{nat_tests}
use Rattle.std.proofs.lemmas.Option.{option_and_then_some}
use Rattle.rf_base.specs.Khz.{IsKhz, is_khz}
use Rattle.rf_exclusions.specs.declared.ban.Ban.{Ban}
use Rattle.rf_exclusions.specs.declared.scan_set.ScanSet.{ScanSet}
use Rattle.rf_show.specs.Limits.{most_bans, most_scans, widest_scan}
use Rattle.rf_show.specs.Show.{ShowData, has_zone, has_zone_or_all, is_ban, is_scan, is_threshold}
use Rattle.rf_text.specs.declared.command.Command.{Command}
use Rattle.rf_text.specs.ShowLaw.{HasPoints, HotPointsOf, IsBan, after_command}
use Rattle.rf_text.specs.Shows.{ban_line, scan_line}

-- ---- numbers

pub fits_not : (a b : ℕ) → a < b → nat_le b a ≡ false
fits_not a b h = grind (arith, nat_tests)

pub khz_is : (n : ℕ) → IsKhz n → is_khz n ≡ true
khz_is n h = grind (arith, nat_tests)

-- ---- commands one after another

abbrev pub made : HotPointsOf → ShowData → List Command → Option ShowData
made hot show [] = Some show
made hot show (command ∷ commands) = option_and_then (λ next. made hot next commands) (after_command hot show command)

pub made_all : (hot : HotPointsOf) (s t u : ShowData) (first more : List Command) → made hot s first ≡ Some t → made hot t more ≡ Some u → made hot s (first ++ more) ≡ Some u
made_all hot s t u [] more a b = let same : s ≡ t = cc in rw same b
made_all hot s t u (e ∷ es) more a b =
    option_and_then_some (λ next. made hot next es) (after_command hot s e) t a (λ next is left. rw is (made_all hot next t u es more left b))

-- Elements that are added one after another, each by its lines: P says of all of them what each needs.
pub each_made : {X : Type 0} (hot : HotPointsOf) (state : List X → ShowData) (lines : X → List Command) (P : List X → Type 0)
    → ((done : List X) (x : X) (more : List X) → P (done ++ x ∷ more) → made hot (state done) (lines x) ≡ Some (state (done ++ x ∷ [])))
    → (done rest : List X) → P (done ++ rest) → made hot (state done) (flat_map lines rest) ≡ Some (state (done ++ rest))
each_made hot state lines P step done [] h = rw append-nil refl
each_made hot state lines P step done (x ∷ rest) h =
    let more = each_made hot state lines P step (done ++ x ∷ []) rest (rw append_assoc h) in
    made_all hot _ _ _ (lines x) _ (step done x rest h) (rw append_assoc at more)

-- each by one line
pub map_made : {X : Type 0} (hot : HotPointsOf) (state : List X → ShowData) (line : X → Command) (P : List X → Type 0)
    → ((done : List X) (x : X) (more : List X) → P (done ++ x ∷ more) → after_command hot (state done) (line x) ≡ Some (state (done ++ x ∷ [])))
    → (done rest : List X) → P (done ++ rest) → made hot (state done) (map line rest) ≡ Some (state (done ++ rest))
map_made hot state line P step done [] h = rw append-nil refl
map_made hot state line P step done (x ∷ rest) h =
    let more = map_made hot state line P step (done ++ x ∷ []) rest (rw append_assoc h) in
    rw (step done x rest h) (rw append_assoc at more)

pub all_at : {X : Type 0} (P : X → Type 0) (xs : List X) (y : X) (ys : List X) → AllByRecursion P (xs ++ y ∷ ys) → P y
all_at P [] y ys h = h.0
all_at P (x ∷ xs) y ys h = all_at P xs y ys h.1

pub tested_at : {X : Type 0} (p : X → Bool) (xs : List X) (y : X) (ys : List X) → list_all p (xs ++ y ∷ ys) ≡ true → p y ≡ true
tested_at p [] y ys h = (and_parts (p y) (list_all p ys) h).0
tested_at p (x ∷ xs) y ys h = tested_at p xs y ys (and_parts (p x) (list_all p (xs ++ y ∷ ys)) h).1

pub full_not : {X : Type 0} (xs : List X) (y : X) (ys : List X) (most : ℕ) → length (xs ++ y ∷ ys) ≤ most → nat_le most (length xs) ≡ false
full_not xs y ys most h = fits_not (length xs) most (omega (arith, length-append xs (y ∷ ys)))

-- ---- bans and scans

pub bans_made : (hot : HotPointsOf) (s : ShowData) (bans : List Ban) → list_all (is_ban s.zones) bans ≡ true → AllByRecursion IsBan bans
    → length bans ≤ most_bans → made hot (record s { bans = [] }) (map ban_line bans) ≡ Some (record s { bans = bans })
bans_made hot s bans valid khz room =
    map_made hot (λ all. record s { bans = all }) ban_line (λ all. (list_all (is_ban s.zones) all ≡ true) × (AllByRecursion IsBan all × (length all ≤ most_bans)))
    (λ done ban more h. let p = and_parts (has_zone_or_all s.zones ban.zone) (nat_le ban.lo ban.hi) (tested_at (is_ban s.zones) done ban more h.0) in
    let khz = all_at IsBan done ban more h.1.0 in
    rw (p.0, p.1, khz_is ban.lo khz.low, khz_is ban.hi khz.high, full_not done ban more most_bans h.1.1) refl) [] bans (valid, (khz, room))

pub scans_made : (hot : HotPointsOf) (s : ShowData) (scans : List ScanSet) → list_all (is_scan s.zones) scans ≡ true → AllByRecursion (HasPoints hot) scans
    → length scans ≤ most_scans → made hot (record s { scans = [] }) (map scan_line scans) ≡ Some (record s { scans = scans })
scans_made hot s scans valid over room =
    map_made hot (λ all. record s { scans = all }) scan_line (λ all. (list_all (is_scan s.zones) all ≡ true) × (AllByRecursion (HasPoints hot) all × (length all ≤ most_scans)))
    (λ done scan more h. let p = and_parts (has_zone s.zones scan.zone && is_threshold scan.threshold) (nat_le scan.width widest_scan) (tested_at (is_scan s.zones) done scan more h.0) in
    let q = and_parts (has_zone s.zones scan.zone) (is_threshold scan.threshold) p.0 in
    rw (all_at (HasPoints hot) done scan more h.1.0, q.0, q.1, p.1, full_not done scan more most_scans h.1.1) refl) [] scans (valid, (over, room))
