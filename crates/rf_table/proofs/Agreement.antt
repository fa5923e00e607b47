-- Shows in which carriers are alike agree on them.
use Rattle.std.proofs.Common.{◌≡◌, ◌≤◌, ◌<◌, ℕ, suc, zero, Bool, true, false, List, [], ◌∷◌, map, length, get_or, refl, ap, sym, ◌∙◌, arith}
use Rattle.std.specs.Prelude.{Option, Some, None, ◌&&◌, nat_lt, is_some, slice_get, find, unwrap_or}
use Rattle.std.specs.List.{list_all, position}
use Rattle.std.specs.Option.{option_and_then, option_map_or}
use Rattle.std.proofs.lemmas.Bool.{or_parts}
use Rattle.std.proofs.lemmas.Bool.Decides.{nat_tests}
use Rattle.std.proofs.lemmas.Option.{slice_get_past}
use Rattle.std.proofs.lemmas.List.Quantifiers.{position-Some}
use Rattle.rf_base.specs.Name.{same_name}
use Rattle.rf_profiles.specs.Profile as profile
use Rattle.rf_terms.specs.declared.kind.Kind.{Kind}
use Rattle.rf_zones.specs.Couplings.{joins}
use Rattle.rf_zones.specs.Masks.{has_bit}
use Rattle.rf_zones.specs.Times.{is_on}
use Rattle.rf_zones.specs.Zones.{ZonesData, coupling_of}
use Rattle.rf_zones.specs.Slices.{on_at, share_minute}
use Rattle.rf_show.specs.declared.carrier.Carrier.{Carrier}
use Rattle.rf_show.specs.Show.{ShowData, is_profile, zone_number}
use Rattle.rf_show.specs.Query.{all_meet, are_joined, asked, meet, meet_at}
use Rattle.rf_rules.specs.Touched.{meets}
use Rattle.rf_rules.specs.Renewed.{Agrees}
use Rattle.rf_table.specs.Unchanged.{AreAlike, SameAt, SameZones, Unchanged}
use Rattle.rf_zones.proofs.SliceLaws.{some_same}

-- ---- zones

same-list : {X : Type 0} (xs ys : List X) → length xs ≡ length ys → ((k : ℕ) → k < length xs → slice_get xs k ≡ slice_get ys k) → xs ≡ ys
same-list [] [] n h = refl
same-list [] (y ∷ ys) n h = absurd (omega (arith, n))
same-list (x ∷ xs) [] n h = absurd (omega (arith, n))
same-list (x ∷ xs) (y ∷ ys) n h =
    let head : x ≡ y = ap (λ o. unwrap_or o x) (h 0 (omega arith)) in
    let tail : xs ≡ ys = same-list xs ys (omega (arith, n)) (λ k q. h (suc k) (omega (arith, q))) in
    cc (head, tail)

number-at : (names : List (List ℕ)) (name : List ℕ) (o : Option ℕ) → position (same_name name) names ≡ o → 0 < length names → unwrap_or o 0 < length names
number-at names name None e h = h
number-at names name (Some i) e h = (position-Some (same_name name) names i [] e).0

number-below : (zones : ZonesData) (name : List ℕ) → 0 < length zones.names → zone_number zones name < length zones.names
number-below zones name h = number-at zones.names name (position (same_name name) zones.names) refl h

coupling-same : (old new : ZonesData) (n m : List ℕ) → SameZones old new → coupling_of old (zone_number old n) (zone_number old m) ≡ coupling_of new (zone_number new n) (zone_number new m)
coupling-same old new n m h =
    let names : old.names ≡ new.names = same-list old.names new.names h.count (λ k q. (h.each k q).name) in
    let first : zone_number old n ≡ zone_number new n = ap (λ ns. unwrap_or (position (same_name n) ns) 0) names in
    let second : zone_number old m ≡ zone_number new m = ap (λ ns. unwrap_or (position (same_name m) ns) 0) names in
    let at = (h.each (zone_number old n) (number-below old n h.some)).couplings (zone_number old m) (number-below old m h.some) in
    at ∙ ap (λ k. coupling_of new k (zone_number old m)) first ∙ ap (λ k. coupling_of new (zone_number new n) k) second

-- ---- carriers

asked-none : (show : ShowData) (kind : Kind) (c : ℕ) → slice_get show.carriers c ≡ None → asked show kind c ≡ 0
asked-none show kind c e = ap (λ o. option_map_or (λ p. profile.margin_of p kind) (option_and_then (λ (x : Carrier). find (is_profile x.profile) show.profiles) o) 0) e

-- where neither show has a carrier, it stays
pub past-both : (old new : ShowData) (c : ℕ) → length old.carriers ≤ c → length new.carriers ≤ c → SameAt old new c
past-both old new c p q =
    let a : slice_get old.carriers c ≡ None = slice_get_past old.carriers c p in
    let b : slice_get new.carriers c ≡ None = slice_get_past new.carriers c q in
    record {
      alike = rw (a, b) tt;
      asked = λ kind. asked-none old kind c a ∙ sym (asked-none new kind c b);
    }

there-get : (cs : List Carrier) (c : ℕ) → nat_lt c (length cs) ≡ is_some (slice_get cs c)
there-get [] c = grind (arith, nat_tests)
there-get (x ∷ cs) zero = grind (arith, nat_tests)
there-get (x ∷ cs) (suc c) =
    let e : nat_lt (suc c) (length (x ∷ cs)) ≡ nat_lt c (length cs) = grind (arith, nat_tests) in
    e ∙ there-get cs c

there-same : (a b : Option Carrier) → AreAlike a b → is_some a ≡ is_some b
there-same None None h = refl
there-same (Some a) (Some b) h = refl
there-same None (Some b) h = absurd h
there-same (Some a) None h = absurd h

-- ---- frequencies

at-get : (cs : List Carrier) (c : ℕ) → get_or (map (λ x. x.at) cs) c None ≡ option_and_then (λ x. x.at) (slice_get cs c)
at-get [] c = refl
at-get (x ∷ cs) zero = refl
at-get (x ∷ cs) (suc c) = at-get cs c

at-same : (a b : Option Carrier) → AreAlike a b → option_and_then (λ x. x.at) a ≡ option_and_then (λ x. x.at) b
at-same None None h = refl
at-same (Some a) (Some b) h = h.at
at-same None (Some b) h = absurd h
at-same (Some a) None h = absurd h

-- ---- who may be together

meet-same : (size : ℕ) (old new : ZonesData) (a b x y : Option Carrier) → SameZones old new → AreAlike a b → AreAlike x y
    → option_map_or (λ c. option_map_or (λ d. meet size old c d) x false) a false ≡ option_map_or (λ c. option_map_or (λ d. meet size new c d) y false) b false
meet-same size old new None None x y z h k = refl
meet-same size old new None (Some b) x y z h k = absurd h
meet-same size old new (Some a) None x y z h k = absurd h
meet-same size old new (Some a) (Some b) None None z h k = refl
meet-same size old new (Some a) (Some b) None (Some y) z h k = absurd k
meet-same size old new (Some a) (Some b) (Some x) None z h k = absurd k
meet-same size old new (Some a) (Some b) (Some x) (Some y) z h k =
    ap (joins size) (ap (λ n. coupling_of old (zone_number old n) (zone_number old x.zone)) h.zone ∙ ap (λ n. coupling_of old (zone_number old b.zone) (zone_number old n)) k.zone ∙
    coupling-same old new b.zone y.zone z)

-- ---- times

on-get : (cs : List Carrier) (minute k : ℕ) → on_at (map (λ x. x.times) cs) minute k ≡ option_map_or (λ x. is_on x.times minute) (slice_get cs k) false
on-get [] minute k = let e : nat_lt k 0 ≡ false = grind (arith, nat_tests) in rw e refl
on-get (x ∷ cs) minute zero = let e : nat_lt 0 (length (map (λ (y : Carrier). y.times) (x ∷ cs))) ≡ true = grind (arith, nat_tests) in rw e refl
on-get (x ∷ cs) minute (suc k) =
    let e : nat_lt (suc k) (length (map (λ (y : Carrier). y.times) (x ∷ cs))) ≡ nat_lt k (length (map (λ (y : Carrier). y.times) cs)) = grind (arith, nat_tests) in
    rw e (on-get cs minute k)

on-same : (minute : ℕ) (a b : Option Carrier) → AreAlike a b → option_map_or (λ x. is_on x.times minute) a false ≡ option_map_or (λ x. is_on x.times minute) b false
on-same minute None None h = refl
on-same minute (Some a) (Some b) h = ap (λ ts. is_on ts minute) h.times
on-same minute None (Some b) h = absurd h
on-same minute (Some a) None h = absurd h

all-out : (mask : ℕ) (p q : ℕ → Bool) (t : List ℕ) → meets mask t ≡ false → ((c : ℕ) → has_bit mask c ≡ false → p c ≡ q c) → list_all p t ≡ list_all q t
all-out mask p q [] h k = refl
all-out mask p q (c ∷ t) h k =
    let o = or_parts (has_bit mask c) (meets mask t) h in
    ap (λ b. b && list_all p t) (k c o.0) ∙ ap (λ b. q c && b) (all-out mask p q t o.1 k)

minute-same : (mask : ℕ) (old new : ShowData) (t : List ℕ) → Unchanged mask old new → meets mask t ≡ false
    → share_minute (map (λ x. x.times) old.carriers) t ≡ share_minute (map (λ x. x.times) new.carriers) t
unfolding share_minute
minute-same mask old new t u h =
    some_same 10080 (λ minute. list_all (on_at (map (λ x. x.times) old.carriers) minute) t) (λ minute. list_all (on_at (map (λ x. x.times) new.carriers) minute) t)
    (λ minute. all-out mask (on_at (map (λ x. x.times) old.carriers) minute) (on_at (map (λ x. x.times) new.carriers) minute) t h
    (λ c o. on-get old.carriers minute c ∙ on-same minute (slice_get old.carriers c) (slice_get new.carriers c) (u.same c o).alike ∙ sym (on-get new.carriers minute c)))

meets-same : (mask size : ℕ) (old new : ShowData) (t : List ℕ) → Unchanged mask old new → meets mask t ≡ false → all_meet size old.zones old.carriers t ≡ all_meet size new.zones new.carriers t
meets-same mask size old new t u h =
    all-out mask (λ a. list_all (λ b. meet_at size old.zones old.carriers a b) t) (λ a. list_all (λ b. meet_at size new.zones new.carriers a b) t) t h
    (λ a o. all-out mask (meet_at size old.zones old.carriers a) (meet_at size new.zones new.carriers a) t h
    (λ b q. meet-same size old.zones new.zones (slice_get old.carriers a) (slice_get new.carriers a) (slice_get old.carriers b) (slice_get new.carriers b) u.zones
    (u.same a o).alike (u.same b q).alike))

joined-same : (mask size : ℕ) (old new : ShowData) (t : List ℕ) → Unchanged mask old new → meets mask t ≡ false → are_joined old size t ≡ are_joined new size t
unfolding are_joined
joined-same mask size old new t u h =
    ap (λ b. b && share_minute (map (λ x. x.times) old.carriers) t) (meets-same mask size old new t u h)
    ∙ ap (λ b. all_meet size new.zones new.carriers t && b) (minute-same mask old new t u h)

pub unchanged-agrees : (mask : ℕ) (old new : ShowData) → Unchanged mask old new → Agrees mask old new
unchanged-agrees mask old new u = record {
  carriers = λ c o. there-get old.carriers c ∙ there-same (slice_get old.carriers c) (slice_get new.carriers c) (u.same c o).alike ∙ sym (there-get new.carriers c);
  at = λ c o. at-get old.carriers c ∙ at-same (slice_get old.carriers c) (slice_get new.carriers c) (u.same c o).alike ∙ sym (at-get new.carriers c);
  asked = λ kind c o. (u.same c o).asked kind;
  joined = λ size t h. joined-same mask size old new t u h;
}
