-- What a newcomer breaks, judged in the show with it and from the others alone.
use Rattle.std.proofs.Common.{◌≡◌, ◌<◌, ◌≤◌, ◌+◌, ◌-◌, ℕ, pos, zero, suc, Bool, true, false, ◌||◌, ◌&&◌, List, [], ◌∷◌, ◌++◌, length, map, refl, ap, sym, ◌∙◌, arith, inl, inr, get_or}
use Rattle.std.proofs.Common.{unsigned_abs, Option, Some, None, nat_lt, slice_get, insert, is_some, replicate, unwrap_or, ◌==◌, lt-ltb, ltb-true, append_assoc, length-append}
use Rattle.std.specs.List.{list_all, list_any}
use Rattle.std.proofs.lemmas.Bool.{and_from, and_parts, cases_Bool, cases_eq, cases_lt, or_cases, or_left, or_right}
use Rattle.std.proofs.lemmas.Bool.Decides.{nat_tests}
use Rattle.std.proofs.lemmas.List.{get_or_append_left, get_or-map, get_or_past, get_or_push, length-map, length-replicate, length_push, map-append, map_push}
use Rattle.std.proofs.lemmas.List.Edits.{get_or-insert_above, get_or-insert_at, length-insert}
use Rattle.std.proofs.lemmas.Option.{get_or_from_slice_get, slice_get_within}
use Rattle.std.proofs.Math.Nat.{max_comm}
use mathlib.Core.List.{map-map}
use Rattle.rf_base.proofs.BoolLaws.{same_test}
use Rattle.rf_base.proofs.ListLaws.{all_below, all_both, all_same, any_same, map_insert}
use Rattle.rf_terms.specs.Kinds.{coefficients_of, kinds, roles_of}
use Rattle.rf_terms.specs.Windows.{form_with}
use Rattle.rf_terms.specs.declared.kind.Kind.{Kind}
use Rattle.rf_terms.specs.declared.kind.Kind.TheVariants.{Spacing, T3Three, T5ThreeA}
use Rattle.rf_terms.proofs.KindLaws.{two_roles}
use Rattle.rf_show.specs.Limits.{most_carriers}
use Rattle.rf_show.specs.Query.{all_meet, are_joined, asked, margin_of, meet_at}
use Rattle.rf_show.specs.Show.{ShowData}
use Rattle.rf_show.specs.declared.carrier.Carrier.{Carrier}
use Rattle.rf_show.proofs.CompanyLaws.{meeting_mutual}
use Rattle.rf_zones.proofs.BitLaws.{on_there}
use Rattle.rf_zones.proofs.SliceLaws.{some_same}
use Rattle.rf_zones.proofs.StandLaws.{coupling_either, coupling_own}
use Rattle.rf_zones.specs.Slices.{on_at, share_minute}
use Rattle.rf_zones.specs.Times.{is_on}
use Rattle.rf_rules.specs.Instances.{are_assigned, at_in, ats_of, distance_of, is_broken, is_candidate, is_distinct, is_in_order, is_instance, khz_in, khzs_in}
use Rattle.rf_rules.specs.Tuples.{upto}
use Rattle.rf_rules.proofs.TupleLaws.{any-found}
use Rattle.rf_spares.specs.Crowds.{asked_at, times_of}
use Rattle.rf_spares.specs.Harms.{Site, admits, harm, harms, harms_kind, harms_role, hears_all, joins_all, margin_at, meets_at, wants}
use Rattle.rf_spares.specs.Harms as of_harms
use Rattle.rf_spares.specs.Newcomers.{extended_by, newcomer}
use Rattle.rf_spares.specs.Spare.{breaks_kind, breaks_with, has_role}
use Rattle.rf_spares.proofs.ListLemmas.{all-below, all-insert, any-insert, any-out, are_below, below-less, below-more, below-none, distinct-insert, map-below, split, tuples-in_as}
use Rattle.rf_spares.proofs.ListLemmas.{tuples-out}
use Rattle.rf_spares.proofs.SiteLemmas.{IsSite, Place, high-is, own-asked, place, place-meets}

-- ---- a number above all others, inserted among them: the order of two places stays where it is a still greater one

below-least : (n : ℕ) (u : List ℕ) (k : ℕ) → are_below n u ≡ true → get_or u k 0 ≤ n
below-least n u k h =
    elim (cases_lt k (length u)) [
      | inl low ↦ let small = all_below n u h k 0 low in omega (arith, small)
      | inr past ↦ rw (get_or_past u k 0 past) (omega arith)
    ]

above-first : (x n m : ℕ) (u : List ℕ) (role j : ℕ) → x < n → n ≤ m → nat_lt x (get_or (insert u role n) j 0) ≡ nat_lt x (get_or (insert u role m) j 0)
above-first x n m u zero zero low le = grind (arith, nat_tests)
above-first x n m u zero (suc j) low le = refl
above-first x n m [] (suc role) zero low le = grind (arith, nat_tests)
above-first x n m [] (suc role) (suc j) low le = refl
above-first x n m (y ∷ u) (suc role) zero low le = refl
above-first x n m (y ∷ u) (suc role) (suc j) low le = above-first x n m u role j low le

order-same : (u : List ℕ) (role n m i j : ℕ) → n ≤ m → are_below n u ≡ true → i < j
    → nat_lt (get_or (insert u role n) i 0) (get_or (insert u role n) j 0) ≡ nat_lt (get_or (insert u role m) i 0) (get_or (insert u role m) j 0)
order-same u role n m i zero le below apart = absurd (omega (arith, apart))
order-same u zero n m zero (suc j) le below apart = let small = below-least n u j below in grind (arith, nat_tests, small, le)
order-same u zero n m (suc i) (suc j) le below apart = refl
order-same [] (suc role) n m zero (suc j) le below apart = grind (arith, nat_tests)
order-same [] (suc role) n m (suc i) (suc j) le below apart = refl
order-same (x ∷ u) (suc role) n m zero (suc j) le below apart = above-first x n m u role j (ltb-true x n (and_parts (nat_lt x n) (are_below n u) below).0) le
order-same (x ∷ u) (suc role) n m (suc i) (suc j) le below apart = order-same u role n m i j le ((and_parts (nat_lt x n) (are_below n u) below).1) (omega (arith, apart))

in-order : (kind : Kind) (u : List ℕ) (role n m : ℕ) → n ≤ m → are_below n u ≡ true → is_in_order kind (insert u role n) ≡ is_in_order kind (insert u role m)
in-order Spacing u role n m le h = order-same u role n m 0 1 le h (omega arith)
in-order T3Three u role n m le h = order-same u role n m 0 1 le h (omega arith)
in-order T5ThreeA u role n m le h = order-same u role n m 1 2 le h (omega arith)
in-order kind u role n m le h = refl

-- ---- frequencies, with one more behind them

abbrev pub now : Site → List ℕ → List (Option ℕ)
now s khzs = ats_of s.show ++ map Some khzs

ats-one : (s : Site) (khzs : List ℕ) (f : ℕ) → ats_of (extended_by s.show s.profile s.zone (khzs ++ f ∷ [])) ≡ now s khzs ++ Some f ∷ []
ats-one s khzs f =
    let new : ℕ → Carrier = λ g. newcomer s.show s.profile s.zone (Some g) in
    map-append (λ c. c.at) s.show.carriers (map new (khzs ++ f ∷ []))
    ∙ ap (λ zs. ats_of s.show ++ zs) (map-map (λ (c : Carrier). c.at) new (khzs ++ f ∷ []) ∙ map_push Some khzs f) ∙ sym (append_assoc (ats_of s.show) (map Some khzs) (Some f ∷ []))

module _ (ats : List (Option ℕ)) (f n : ℕ) (long : length ats ≡ n) (u : List ℕ) (below : are_below n u ≡ true) where
  older : (c : ℕ) → c < n → at_in (ats ++ Some f ∷ []) c ≡ at_in ats c
  older c h = get_or_append_left ats (Some f ∷ []) None c (omega (arith, h, long))

  newest : at_in (ats ++ Some f ∷ []) n ≡ Some f
  newest = get_or_push ats (Some f) None n long

  khzs-older : khzs_in (ats ++ Some f ∷ []) u ≡ khzs_in ats u
  khzs-older = map-below _ _ n u (λ c h. ap (λ o. unwrap_or o 0) (older c h)) below

  assigned-older : are_assigned (ats ++ Some f ∷ []) u ≡ are_assigned ats u
  assigned-older = all-below _ _ n u (λ c h. ap is_some (older c h)) below

  assigned-same : (role : ℕ) → are_assigned (ats ++ Some f ∷ []) (insert u role n) ≡ are_assigned ats u
  assigned-same role = all-insert (λ c. is_some (at_in (ats ++ Some f ∷ []) c)) u role n ∙ rw newest assigned-older

  distance-same : (kind : Kind) (role : ℕ) → distance_of (ats ++ Some f ∷ []) kind (insert u role n) ≡ unsigned_abs (form_with (coefficients_of kind) role (khzs_in ats u) (pos f))
  unfolding distance_of
  distance-same kind role = rw (map_insert (khz_in (ats ++ Some f ∷ [])) u role n, newest, khzs-older, map_insert pos (khzs_in ats u) role f) refl

-- ---- lists of carriers

-- those that may be together with each other, where one that may be with itself is among them
pairs-insert : (M : ℕ → ℕ → Bool) (n role : ℕ) (u : List ℕ) → M n n ≡ true → ((a b : ℕ) → M a b ≡ M b a)
    → list_all (λ a. list_all (M a) (insert u role n)) (insert u role n) ≡ (list_all (M n) u && list_all (λ a. list_all (M a) u) u)
pairs-insert M n role u own both =
    all_same _ _ (insert u role n) (λ a. all-insert (M a) u role n) ∙ all-insert (λ a. M a n && list_all (M a) u) u role n
    ∙ rw (all_both (λ a. M a n) (λ a. list_all (M a) u) u, all_same (λ a. M a n) (M n) u (λ a. both a n), own) (grind arith)

pub on-times : (cs : List Carrier) (minute c : ℕ) (d : Carrier) → slice_get cs c ≡ Some d → on_at (map (λ x. x.times) cs) minute c ≡ is_on d.times minute
on-times cs minute c d e =
    let there = slice_get_within cs c d e in
    on_there (map (λ x. x.times) cs) minute c (omega (arith, there, length-map cs (λ (x : Carrier). x.times)))
    ∙ ap (λ t. is_on t minute) (get_or-map (λ (x : Carrier). x.times) cs c d [] there ∙ ap (λ (x : Carrier). x.times) (get_or_from_slice_get cs c d d e))

-- ---- a newcomer behind all others

abbrev pub grown : Site → List ℕ → ℕ → ShowData
grown s khzs f = extended_by s.show s.profile s.zone (khzs ++ f ∷ [])

abbrev pub last : Site → List ℕ → ℕ
last s khzs = length s.show.carriers + length khzs

pub last-is : (s : Site) (khzs : List ℕ) (f : ℕ)
    → slice_get (grown s khzs f).carriers (last s khzs) ≡ Some (newcomer s.show s.profile s.zone (Some (get_or (khzs ++ f ∷ []) (last s khzs - length s.show.carriers) 0)))
last-is s khzs f = high-is s (khzs ++ f ∷ []) (last s khzs) (omega arith) (omega (arith, length_push khzs f))

pub length-with : (s : Site) (khzs : List ℕ) → length (extended_by s.show s.profile s.zone khzs).carriers ≡ last s khzs
length-with s khzs =
    let new : ℕ → Carrier = λ g. newcomer s.show s.profile s.zone (Some g) in
    omega (arith, length-append s.show.carriers (map new khzs), length-map khzs new)

pub length-ats : (s : Site) (khzs : List ℕ) → length (now s khzs) ≡ last s khzs
length-ats s khzs = length-append (ats_of s.show) (map Some khzs) ∙ omega (arith, length-map s.show.carriers (λ (c : Carrier). c.at), length-map khzs (λ x. Some x))

-- a broken instance has no carrier twice
broken-distinct : (show : ShowData) (ats : List (Option ℕ)) (kind : Kind) (t : List ℕ) → is_broken show ats kind t ≡ true → is_distinct t ≡ true
unfolding is_broken is_candidate is_instance
broken-distinct show ats kind t h = grind (arith, h)

module _ (s : Site) (khzs : List ℕ) (f : ℕ) (known : IsSite s) (few : length s.show.carriers + length khzs ≤ most_carriers) where
  abbrev show : ShowData
  show = grown s khzs f

  abbrev n : ℕ
  n = last s khzs

  length-grown : length show.carriers ≡ n + 1
  length-grown = omega (arith, length-with s (khzs ++ f ∷ []), length_push khzs f)

  spot : (c : ℕ) → c < n → Place s (khzs ++ f ∷ []) c
  spot c low = place s (khzs ++ f ∷ []) c known (omega (arith, low, length_push khzs f)) (omega (arith, low, few))

  meets-same : (size role : ℕ) (u : List ℕ) → are_below n u ≡ true → all_meet size s.show.zones show.carriers (insert u role n) ≡ (hears_all s size u && of_harms.all_meet s size u)
  unfolding hears_all of_harms.all_meet
  meets-same size role u below =
      let M : ℕ → ℕ → Bool = λ a b. meet_at size s.show.zones show.carriers a b in
      let ways = meeting_mutual s.show.zones show.carriers (record { both = coupling_either s.show.zones; own = coupling_own s.show.zones }) in
      pairs-insert M n role u (ways.own size n (omega (arith, length-grown))) (ways.both size)
      ∙ ap (λ b. b && list_all (λ a. list_all (M a) u) u) (all-below (M n) _ n u
      (λ c low. let p = spot c low in rw (last-is s khzs f, p.is) (rw p.zone refl)) below)
      ∙ ap (λ b. hears_all s size u && b) (all-below (λ a. list_all (M a) u) (λ a. list_all (λ b. meets_at s size a b) u) n u
      (λ a low. all-below (M a) _ n u (λ b small. place-meets s (khzs ++ f ∷ []) size a b (spot a low) (spot b small)) below) below)

  on-same : (minute c : ℕ) → c < n → on_at (map (λ d. d.times) show.carriers) minute c ≡ on_at (times_of s.show) minute c
  on-same minute c low =
      let p = spot c low in
      let times = map (λ (d : Carrier). d.times) s.show.carriers in
      let nowhere : List (ℕ × ℕ) = [] in
      let room : c < length (times_of s.show) =
      omega (arith, low, few, length-append times (replicate (most_carriers - length times) []), length-replicate (most_carriers - length times) nowhere) in
      on-times show.carriers minute c p.carrier p.is ∙ ap (λ t. is_on t minute) p.times ∙ sym (on_there (times_of s.show) minute c room)

  share-same : (role : ℕ) (u : List ℕ) → are_below n u ≡ true → share_minute (map (λ d. d.times) show.carriers) (insert u role n) ≡ share_minute (times_of s.show) u
  unfolding share_minute
  share-same role u below =
      let T = map (λ (d : Carrier). d.times) show.carriers in
      some_same 10080 _ _ (λ m. all-insert (on_at T m) u role n
      ∙ rw (on-times show.carriers m n _ (last-is s khzs f)) (all-below (on_at T m) (on_at (times_of s.show) m) n u (on-same m) below))

  joined-same : (size role : ℕ) (u : List ℕ) → are_below n u ≡ true → are_joined show size (insert u role n) ≡ joins_all s size u
  unfolding are_joined
  joined-same size role u below = grind (arith, meets-same size role u below, share-same role u below)

  -- ---- margins

  asked-last : (kind : Kind) → asked show kind n ≡ asked_at s.show s.profile kind
  asked-last kind = own-asked s (khzs ++ f ∷ []) n (omega arith) (omega (arith, length_push khzs f)) known kind

  margin-same : (kind : Kind) (role : ℕ) (u : List ℕ) → are_below n u ≡ true → role ≤ length u → length u + 1 ≡ roles_of kind
      → margin_of show kind (insert u role n) ≡ margin_at s kind role u
  margin-same Spacing role [] below low size = absurd (omega (arith, size))
  margin-same Spacing zero (x ∷ []) below low size = rw (asked-last Spacing, (spot x (all_below n (x ∷ []) below 0 0 (omega arith))).needs Spacing) (max_comm _ _)
  margin-same Spacing (suc zero) (x ∷ []) below low size = rw (asked-last Spacing, (spot x (all_below n (x ∷ []) below 0 0 (omega arith))).needs Spacing) refl
  margin-same Spacing (suc (suc role)) (x ∷ []) below low size = absurd (omega (arith, low))
  margin-same Spacing role (x ∷ y ∷ u) below low size = absurd (omega (arith, size))
  margin-same kind role u below low size =
      let k = roles_of kind - 1 in
      let two = two_roles kind in
      elim (cases_eq role k) [
        | inl e ↦
            let yes : (role == k) ≡ true = grind (arith, nat_tests, e) in
            let v : get_or (insert u role n) k 0 ≡ n = rw (← e) (get_or-insert_at u role n 0 low) in
            rw (v, yes) (asked-last kind)
        | inr e ↦
            let no : (role == k) ≡ false = grind (arith, nat_tests, e) in
            let step : k ≡ (k - 1) + 1 = omega (arith, two) in
            let v : get_or (insert u role n) k 0 ≡ get_or u (k - 1) 0 =
            ap (λ j. get_or (insert u role n) j 0) step ∙ get_or-insert_above u role n 0 (k - 1) (omega (arith, low, size, e, two)) low in
            rw (v, no) ((spot (get_or u (k - 1) 0) (all_below n u below (k - 1) 0 (omega (arith, size, two)))).needs kind)
      ]

  -- ---- the newcomer's instance

  harm-is : (kind : Kind) (role : ℕ) (u : List ℕ) → are_below n u ≡ true → role ≤ length u → length u + 1 ≡ roles_of kind
      → is_broken show (ats_of show) kind (insert u role n) ≡ harm s (now s khzs) kind role u f
  unfolding is_broken is_candidate is_instance harm admits
  harm-is kind role u below low size =
      let ats = now s khzs in
      let long = length-ats s khzs in
      let distinct : is_distinct (insert u role n) ≡ is_distinct u = rw (distinct-insert n u role, below-none n u below) refl in
      rw (
        ats-one s khzs f,
        distance-same ats f n long u below kind role,
        margin-same kind role u below low size,
        assigned-same ats f n long u below role,
        distinct,
        in-order kind u role n most_carriers few below,
        joined-same (roles_of kind) role u below,
      ) refl

  to-harm : (kind : Kind) → breaks_kind show n kind ≡ true → harms_kind s (now s khzs) None f kind ≡ true
  to-harm kind h =
      let d = tuples-out (λ t. has_role n t && is_broken show (ats_of show) kind t) (roles_of kind) (n + 1) (length show.carriers) length-grown h in
      let both = and_parts (has_role n d.list) (is_broken show (ats_of show) kind d.list) d.passes in
      let t = split n d.list both.0 in
      let u = t.others in
      let broken = rw t.is at both.1 in
      let once : has_role n u ≡ false = let e = distinct-insert n u t.role in let h = broken-distinct show (ats_of show) kind (insert u t.role n) broken in grind (arith, e, h) in
      let all = rw (t.is, all-insert (λ c. nat_lt c (n + 1)) u t.role n) at d.below in
      let below : are_below n u ≡ true = below-less n u ((and_parts (nat_lt n (n + 1)) _ all).1) once in
      let size : length u + 1 ≡ roles_of kind = sym (length-insert u t.role n t.within) ∙ ap length (sym t.is) ∙ d.size in
      any-found (harms_role s (now s khzs) None kind f) (roles_of kind) t.role (omega (arith, t.within, size))
      (tuples-in_as (λ u. wants None u && harm s (now s khzs) kind t.role u f) n (length (now s khzs)) (length-ats s khzs)
      (roles_of kind - 1) u (omega (arith, size)) below (sym (harm-is kind t.role u below t.within size) ∙ broken))

  from-harm : (kind : Kind) → harms_kind s (now s khzs) None f kind ≡ true → breaks_kind show n kind ≡ true
  from-harm kind h =
      let r = any-out (harms_role s (now s khzs) None kind f) (roles_of kind) h in
      let d = tuples-out (λ u. wants None u && harm s (now s khzs) kind r.at u f) (roles_of kind - 1) n (length (now s khzs)) (length-ats s khzs) r.passes in
      let t = insert d.list r.at n in
      let size : length d.list + 1 ≡ roles_of kind = omega (arith, d.size, two_roles kind) in
      let within : r.at ≤ length d.list = omega (arith, r.low, size) in
      let self : (n == n) ≡ true = grind (arith, nat_tests) in
      let has : has_role n t ≡ true = any-insert (λ c. c == n) d.list r.at n ∙ or_left (n == n) _ self in
      let all : are_below (n + 1) t ≡ true =
      all-insert (λ c. nat_lt c (n + 1)) d.list r.at n ∙ and_from (nat_lt n (n + 1)) (are_below (n + 1) d.list)
      (lt-ltb n (n + 1) (omega arith)) (below-more n (n + 1) d.list (omega arith) d.below) in
      tuples-in_as (λ t. has_role n t && is_broken show (ats_of show) kind t) (n + 1) (length show.carriers) length-grown (roles_of kind) t (length-insert d.list r.at n within ∙ size)
      all (and_from (has_role n t) _ has (harm-is kind r.at d.list d.below within size ∙ d.passes))

  -- what a newcomer breaks in the show with it is what it harms beside the others
  pub breaks-is : breaks_with show n ≡ harms s (now s khzs) None f
  unfolding harms
  breaks-is = any_same (breaks_kind show n) (harms_kind s (now s khzs) None f) kinds (λ kind. same_test _ _ (to-harm kind) (from-harm kind))

-- ---- one newcomer more among the others

harm-older : (s : Site) (ats : List (Option ℕ)) (g : ℕ) (kind : Kind) (role : ℕ) (u : List ℕ) (f : ℕ)
    → are_below (length ats) u ≡ true → harm s (ats ++ Some g ∷ []) kind role u f ≡ harm s ats kind role u f
unfolding harm admits
harm-older s ats g kind role u f below = rw (khzs-older ats g (length ats) refl u below, assigned-older ats g (length ats) refl u below) refl

role-more : (s : Site) (ats : List (Option ℕ)) (g f : ℕ) (kind : Kind) (role : ℕ)
    → harms_role s (ats ++ Some g ∷ []) None kind f role ≡ (harms_role s ats None kind f role || harms_role s (ats ++ Some g ∷ []) (Some (length ats)) kind f role)
role-more s ats g f kind role =
    let n = length ats in
    let long : length (ats ++ Some g ∷ []) ≡ n + 1 = length_push ats (Some g) in
    let k = roles_of kind - 1 in
    let old : List ℕ → Bool = λ u. harm s ats kind role u f in
    let all : List ℕ → Bool = λ u. harm s (ats ++ Some g ∷ []) kind role u f in
    let there : List ℕ → Bool = λ u. has_role n u && harm s (ats ++ Some g ∷ []) kind role u f in
    same_test _ _
    (λ h.
    let d = tuples-out all k (n + 1) _ long h in
    elim (cases_Bool (has_role n d.list)) [
      | inl has ↦ or_right (harms_role s ats None kind f role) _ (tuples-in_as there (n + 1) _ long k d.list d.size d.below (and_from (has_role n d.list) _ has d.passes))
      | inr none ↦
          let below = below-less n d.list d.below none in
          or_left (harms_role s ats None kind f role) _ (tuples-in_as old n n refl k d.list d.size below (sym (harm-older s ats g kind role d.list f below) ∙ d.passes))
    ])
    (λ h.
    elim (or_cases (harms_role s ats None kind f role) (harms_role s (ats ++ Some g ∷ []) (Some n) kind f role) h) [
      | inl h ↦
          let d = tuples-out old k n n refl h in
          tuples-in_as all (n + 1) _ long k d.list d.size (below-more n (n + 1) d.list (omega arith) d.below) (harm-older s ats g kind role d.list f d.below ∙ d.passes)
      | inr h ↦ let d = tuples-out there k (n + 1) _ long h in tuples-in_as all (n + 1) _ long k d.list d.size d.below ((and_parts (has_role n d.list) _ d.passes).1)
    ])

any-or : {X : Type 0} (p q r : X → Bool) (xs : List X) → ((x : X) → p x ≡ (q x || r x)) → list_any p xs ≡ (list_any q xs || list_any r xs)
any-or p q r [] h = refl
any-or p q r (x ∷ xs) h = grind (arith, h x, any-or p q r xs h)

-- what is harmed beside one newcomer more: what was, and what has that newcomer in a role
pub harms-more : (s : Site) (ats : List (Option ℕ)) (g f : ℕ) → harms s (ats ++ Some g ∷ []) None f ≡ (harms s ats None f || harms s (ats ++ Some g ∷ []) (Some (length ats)) f)
unfolding harms
harms-more s ats g f =
    any-or (harms_kind s (ats ++ Some g ∷ []) None f) (harms_kind s ats None f) (harms_kind s (ats ++ Some g ∷ []) (Some (length ats)) f) kinds
    (λ kind. any-or (harms_role s (ats ++ Some g ∷ []) None kind f) (harms_role s ats None kind f)
    (harms_role s (ats ++ Some g ∷ []) (Some (length ats)) kind f) (upto (roles_of kind)) (role-more s ats g f kind))
