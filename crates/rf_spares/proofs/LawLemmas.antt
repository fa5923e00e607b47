-- A carrier more that breaks nothing leaves the analysis as it is, and so does all that is chosen.
use Rattle.std.proofs.Common.{◌≡◌, ◌<◌, ◌-◌, ℕ, zero, suc, Bool, true, false, ◌&&◌, List, [], ◌∷◌, ◌++◌, length, map, refl, ap, sym, ◌∙◌, arith, inl, inr, ◌+◌, drop, get_or}
use Rattle.std.specs.Prelude.{Some, None, cond, filter, is_some, nat_lt, not, slice_get, slice_index, unwrap_or, ◌==◌}
use Rattle.std.specs.List.{flat_map, list_all, list_any}
use Rattle.std.proofs.lemmas.Bool.{cases_Bool, and_from, and_parts, false_from_ne_true, lt-ltb, or_right, cases_lt, not-true}
use Rattle.std.proofs.lemmas.Bool.Decides.{nat_tests}
use Rattle.std.proofs.lemmas.List.{append-nil, get_or_append_left, get_or_at, length-map, length_push, map-append, append_assoc, drop_all, drop_more}
use Rattle.std.proofs.lemmas.List.Concat.{flat_map-append}
use Rattle.std.proofs.lemmas.List.Folds.{flat_map-map, list_any_at}
use Rattle.std.proofs.lemmas.List.Elements.{All-take}
use Rattle.std.proofs.lemmas.Option.{slice_get-get_or}
use Rattle.rf_base.proofs.BoolLaws.{clash}
use Rattle.rf_base.proofs.ListLaws.{tested_below, all_below, flat_same, get_left}
use Rattle.rf_terms.specs.Kinds.{kinds, roles_of}
use Rattle.rf_terms.specs.declared.kind.Kind.{Kind}
use Rattle.rf_terms.specs.declared.kind.Kind.TheVariants.{Spacing}
use Rattle.rf_profiles.specs.Channels.{channels}
use Rattle.rf_profiles.specs.Profile as profiles
use Rattle.rf_zones.specs.Slices.{on_at, share_minute}
use Rattle.rf_zones.proofs.SliceLaws.{some_same}
use Rattle.rf_show.specs.Query.{all_meet, are_joined, is_banned, margin_of, meet_at}
use Rattle.rf_show.specs.Show.{ShowData}
use Rattle.rf_show.specs.declared.carrier.Carrier.{Carrier}
use Rattle.rf_rules.specs.Analyses.{analysis, banned_carriers, conflicts_of, is_off_grid, off_grid, stands_banned}
use Rattle.rf_rules.specs.Conflicts.{conflict_of, sources_of}
use Rattle.rf_rules.specs.Instances.{are_assigned, at_in, ats_of, distance_of, is_broken, is_candidate, is_instance, khz_in, khzs_in}
use Rattle.rf_rules.specs.Tuples.{tuples, upto}
use Rattle.rf_rules.specs.declared.conflict.Conflict.{Conflict}
use Rattle.rf_rules.specs.declared.conflict.Conflict.TheVariants.{Banned, OffGrid}
use Rattle.rf_rules.proofs.PlanLaws.{kinds-out}
use Rattle.rf_rules.proofs.TupleLaws.{upto-suc, upto-zero}
use Rattle.rf_spares.specs.Spare.{breaks_kind, breaks_with, has_role, chosen, is_spare, taken_from, with_channels}
use Rattle.rf_spares.proofs.HarmLemmas.{on-times}
use Rattle.rf_spares.proofs.ListLemmas.{all-below, are_below, below-more, filter-last, map-below, tuples-in_as}
use Rattle.rf_spares.specs.Newcomers.{channels_at, extended, extended_by, newcomer}
use Rattle.rf_spares.specs.Harms.{Site}
use Rattle.rf_spares.proofs.SiteLemmas.{IsSite, last-carrier, own-profile}
use Rattle.rf_spares.proofs.SpareLemmas.{grown-is, none-added}

-- ---- lists of carriers with one carrier more

flat-upto : {Y : Type 0} (F G : ℕ → List Y) (n : ℕ) → ((x : ℕ) → x < n → F x ≡ G x) → flat_map F (upto n) ≡ flat_map G (upto n)
flat-upto F G zero h = rw upto-zero refl
flat-upto F G (suc n) h = rw (upto-suc n, flat_map-append F (upto n), flat_map-append G (upto n), flat-upto F G n (λ x low. h x (omega (arith, low))), h n (omega arith)) refl

flat-none : {X Y : Type 0} (xs : List X) → flat_map {A = Y} (λ _. []) xs ≡ []
flat-none [] = refl
flat-none (x ∷ xs) = flat-none xs

-- the lists of one carrier more, by their first
flat-lists : {Y : Type 0} (F : List ℕ → List Y) (k : ℕ) (xs ys : List ℕ)
    → flat_map F (flat_map (λ x. map (λ t. x ∷ t) (tuples k xs)) ys) ≡ flat_map (λ x. flat_map (λ u. F (x ∷ u)) (tuples k xs)) ys
flat-lists F k xs [] = refl
flat-lists F k xs (y ∷ ys) = rw (flat_map-append F (map (λ t. y ∷ t) (tuples k xs)), flat-lists F k xs ys, flat_map-map F (λ t. y ∷ t) (tuples k xs)) refl

-- those that are picked, one by one
picked : {X Y : Type 0} (f : X → Y) (p : X → Bool) (xs : List X) → map f (filter p xs) ≡ flat_map (λ x. cond (p x) (f x ∷ []) []) xs
picked f p [] = refl
picked f p (x ∷ xs) = grind (arith, picked f p xs)

-- of the lists with one carrier more those without it give the same as before
same-lists : {Y : Type 0} (F G : List ℕ → List Y) (n k : ℕ) → ((t : List ℕ) → length t ≡ k → are_below n t ≡ true → F t ≡ G t)
    → ((t : List ℕ) → length t ≡ k → are_below (suc n) t ≡ true → has_role n t ≡ true → F t ≡ []) → flat_map F (tuples k (upto (suc n))) ≡ flat_map G (tuples k (upto n))
unfolding tuples
same-lists F G n zero same none = ap (λ zs. zs ++ []) (same [] refl refl)
same-lists F G n (suc k) same none =
    let low : (x m : ℕ) (t : List ℕ) → x < m → are_below m t ≡ true → are_below m (x ∷ t) ≡ true = λ x m t h below. and_from (nat_lt x m) (are_below m t) (lt-ltb x m h) below in
    let last : flat_map (λ u. F (n ∷ u)) (tuples k (upto (suc n))) ≡ [] =
    same-lists (λ u. F (n ∷ u)) (λ u. []) n k
    (λ t e below. none (n ∷ t) (ap suc e) (low n (suc n) t (omega arith) (below-more n (suc n) t (omega arith) below)) (grind (arith, nat_tests)))
    (λ t e below has. none (n ∷ t) (ap suc e) (low n (suc n) t (omega arith) below) (or_right (n == n) _ has)) ∙ flat-none (tuples k (upto n)) in
    let E : ℕ → _ = λ x. flat_map (λ u. F (x ∷ u)) (tuples k (upto (suc n))) in
    flat-lists F k (upto (suc n)) (upto (suc n)) ∙ ap (flat_map E) (upto-suc n) ∙ flat_map-append E (upto n) (n ∷ []) ∙ ap (λ zs. flat_map E (upto n) ++ (zs ++ [])) last
    ∙ append-nil (flat_map E (upto n)) ∙ flat-upto E _ n (λ x h. same-lists (λ u. F (x ∷ u)) (λ u. G (x ∷ u)) n k (λ t e below. same (x ∷ t) (ap suc e) (low x n t h below))
    (λ t e below has. none (x ∷ t) (ap suc e) (low x (suc n) t (omega (arith, h)) below) (or_right (x == n) _ has)))
    ∙ sym (flat-lists G k (upto n) (upto n))

-- the conflicts of a kind, instance by instance
abbrev picks : ShowData → Kind → List ℕ → List Conflict
picks show kind t = cond (is_broken show (ats_of show) kind t) (conflict_of show (ats_of show) kind t ∷ []) []

conflicts-as : (show : ShowData) (kind : Kind) (n : ℕ) → length (ats_of show) ≡ n → conflicts_of show (ats_of show) kind ≡ flat_map (picks show kind) (tuples (roles_of kind) (upto n))
conflicts-as show kind n e = picked (conflict_of show (ats_of show) kind) (is_broken show (ats_of show) kind) _ ∙ ap (λ m. flat_map (picks show kind) (tuples (roles_of kind) (upto m))) e

-- ---- a show with one carrier more

module _ (show : ShowData) (d : Carrier) (f : ℕ) (set-at : d.at ≡ Some f) where
  abbrev pub more : ShowData
  more = record show { carriers = show.carriers ++ d ∷ [] }

  abbrev pub n : ℕ
  n = length show.carriers

  same-carrier : (c : ℕ) → c < n → slice_get more.carriers c ≡ slice_get show.carriers c
  same-carrier c h = get_left show.carriers (d ∷ []) c _ (slice_get-get_or show.carriers c d h) ∙ sym (slice_get-get_or show.carriers c d h)

  same-ats : ats_of more ≡ ats_of show ++ Some f ∷ []
  same-ats = map-append (λ c. c.at) show.carriers (d ∷ []) ∙ ap (λ o. ats_of show ++ o ∷ []) set-at

  same-at : (c : ℕ) → c < n → at_in (ats_of more) c ≡ at_in (ats_of show) c
  same-at c h = ap (λ ats. at_in ats c) same-ats ∙ get_or_append_left (ats_of show) (Some f ∷ []) None c (omega (arith, h, length-map show.carriers (λ x. x.at)))

  same-off : (c : ℕ) → c < n → is_off_grid more c (at_in (ats_of more) c) ≡ is_off_grid show c (at_in (ats_of show) c)
  same-off c h = rw (same-at c h, same-carrier c h) refl

  same-stands : (c : ℕ) → c < n → stands_banned more c (at_in (ats_of more) c) ≡ stands_banned show c (at_in (ats_of show) c)
  unfolding is_banned
  same-stands c h = rw (same-at c h, same-carrier c h) refl

  same-margin : (kind : Kind) (t : List ℕ) → length t ≡ roles_of kind → are_below n t ≡ true → margin_of more kind t ≡ margin_of show kind t
  same-margin Spacing t e below = rw (
    same-carrier (slice_index t 0) (all_below n t below 0 0 (omega (arith, e))),
    same-carrier (slice_index t 1)
        (all_below n t below 1 0 (omega (arith, e))),
  ) refl
  same-margin kind t e below = rw (same-carrier (slice_index t (roles_of kind - 1)) (all_below n t below (roles_of kind - 1) 0 (omega (arith, e)))) refl

  same-khzs : (t : List ℕ) → are_below n t ≡ true → khzs_in (ats_of more) t ≡ khzs_in (ats_of show) t
  same-khzs t below = map-below (khz_in (ats_of more)) (khz_in (ats_of show)) n t (λ c h. ap (λ o. unwrap_or o 0) (same-at c h)) below

  same-assigned : (t : List ℕ) → are_below n t ≡ true → are_assigned (ats_of more) t ≡ are_assigned (ats_of show) t
  same-assigned t below = all-below (λ c. is_some (at_in (ats_of more) c)) (λ c. is_some (at_in (ats_of show) c)) n t (λ c h. ap is_some (same-at c h)) below

  same-all_meet : (size : ℕ) (t : List ℕ) → are_below n t ≡ true → all_meet size show.zones more.carriers t ≡ all_meet size show.zones show.carriers t
  same-all_meet size t below =
      all-below (λ a. list_all (meet_at size show.zones more.carriers a) t) (λ a. list_all (meet_at size show.zones show.carriers a) t) n t
      (λ a h. all-below (meet_at size show.zones more.carriers a) (meet_at size show.zones show.carriers a) n t (λ b k. rw (same-carrier a h, same-carrier b k) refl) below) below

  same-on : (minute c : ℕ) → c < n → on_at (map (λ x. x.times) more.carriers) minute c ≡ on_at (map (λ x. x.times) show.carriers) minute c
  same-on minute c h =
      let e = slice_get-get_or show.carriers c d h in
      on-times more.carriers minute c _ (same-carrier c h ∙ e) ∙ sym (on-times show.carriers minute c _ e)

  same-share : (t : List ℕ) → are_below n t ≡ true → share_minute (map (λ x. x.times) more.carriers) t ≡ share_minute (map (λ x. x.times) show.carriers) t
  unfolding share_minute
  same-share t below = some_same 10080 _ _ (λ m. all-below (on_at (map (λ x. x.times) more.carriers) m) (on_at (map (λ x. x.times) show.carriers) m) n t (λ c h. same-on m c h) below)

  same-broken : (kind : Kind) (t : List ℕ) → length t ≡ roles_of kind → are_below n t ≡ true → is_broken more (ats_of more) kind t ≡ is_broken show (ats_of show) kind t
  unfolding is_broken is_candidate is_instance distance_of are_joined
  same-broken kind t e below = rw (same-khzs t below, same-margin kind t e below, same-assigned t below, same-all_meet (roles_of kind) t below, same-share t below) refl

  same-conflict : (kind : Kind) (t : List ℕ) → length t ≡ roles_of kind → are_below n t ≡ true → conflict_of more (ats_of more) kind t ≡ conflict_of show (ats_of show) kind t
  unfolding conflict_of distance_of
  same-conflict kind t e below =
      let sources = tested_below n (sources_of t) (All-take (λ c. c < n) (length t - 1) t (all_below n t below)) in
      rw (same-khzs (sources_of t) sources, same-khzs t below, same-margin kind t e below) refl

  long-carriers : length more.carriers ≡ suc n
  long-carriers = length_push show.carriers d ∙ omega arith

  -- no instance that has the carrier in a role is broken
  same-conflicts : (kind : Kind) → breaks_kind more n kind ≡ false → conflicts_of more (ats_of more) kind ≡ conflicts_of show (ats_of show) kind
  same-conflicts kind none =
      conflicts-as more kind (suc n) (length-map more.carriers (λ (x : Carrier). x.at) ∙ long-carriers)
      ∙ same-lists (picks more kind) (picks show kind) n (roles_of kind) (λ t e below. rw (same-broken kind t e below, same-conflict kind t e below) refl)
      (λ t e below has.
      let whole : is_broken more (ats_of more) kind t ≡ false = false_from_ne_true _ (λ found.
      clash (tuples-in_as (λ u. has_role n u && is_broken more (ats_of more) kind u) (suc n) (length more.carriers) long-carriers (roles_of kind) t e below
      (and_from (has_role n t) _ has found)) none) in
      rw whole refl)
      ∙ sym (conflicts-as show kind n (length-map show.carriers (λ (x : Carrier). x.at)))

  at-end : at_in (ats_of more) n ≡ Some f
  at-end = ap (λ ats. at_in ats n) same-ats ∙ get_or_at (ats_of show) (Some f) [] None n (length-map show.carriers (λ x. x.at))

  same-off_grid : is_off_grid more n (Some f) ≡ false → off_grid more ≡ off_grid show
  same-off_grid on = ap (map OffGrid) (filter-last _ _ n _ long-carriers same-off (ap (λ o. is_off_grid more n o) at-end ∙ on))

  same-banned_carriers : is_banned more n f ≡ false → banned_carriers more ≡ banned_carriers show
  same-banned_carriers free =
      ap (map Banned) (filter-last _ _ n _ long-carriers same-stands (ap (λ o. stands_banned more n o) at-end ∙ free))

  -- the analysis stays
  pub same-analysis : is_off_grid more n (Some f) ≡ false → is_banned more n f ≡ false → breaks_with more n ≡ false → analysis more ≡ analysis show
  same-analysis on free none =
      rw (
        same-off_grid on,
        same-banned_carriers free,
        flat_same (conflicts_of more (ats_of more)) (conflicts_of show (ats_of show)) kinds (λ kind. same-conflicts kind (kinds-out (breaks_kind more n) kind none)),
      ) refl

-- ---- all that is chosen

module _ (s : Site) (known : IsSite s) where
  abbrev chs : List ℕ
  chs = channels known.own.channels

  abbrev beside : List ℕ → ShowData
  beside khzs = extended_by s.show s.profile s.zone khzs

  step : (khzs : List ℕ) (f k : ℕ) → k < length chs → f ≡ get_or chs k 0 → is_spare (beside khzs) s.profile s.zone f ≡ true → analysis (beside (khzs ++ f ∷ [])) ≡ analysis (beside khzs)
  unfolding is_spare
  step khzs f k low e spare =
      let x = beside khzs in
      let more = extended x s.profile s.zone f in
      let both = and_parts (not (is_banned more (length x.carriers) f)) (not (breaks_with more (length x.carriers))) spare in
      let own = own-profile s.show s.profile known.own known.shown known.is in
      let there : list_any (λ g. f == g) chs ≡ true = list_any_at (λ g. f == g) chs k 0 low (grind (arith, nat_tests, e)) in
      let on : is_off_grid more (length x.carriers) (Some f) ≡ false = rw (last-carrier x s.profile s.zone f, own, there) refl in
      ap analysis (sym (grown-is s khzs f)) ∙ same-analysis x (newcomer x s.profile s.zone (Some f)) f refl on (not-true _ both.0) (not-true _ both.1)

  law-from : (khzs : List ℕ) (wanted k : ℕ) (fs : List ℕ) → fs ≡ drop k chs
      → analysis (beside (khzs ++ map (slice_index chs) (taken_from (beside khzs) s.profile s.zone wanted k fs))) ≡ analysis (beside khzs)
  unfolding taken_from
  law-from khzs wanted k [] e = ap (λ zs. analysis (beside zs)) (append-nil khzs)
  law-from khzs zero k (f ∷ fs) e = ap (λ zs. analysis (beside zs)) (append-nil khzs)
  law-from khzs (suc wanted) k (f ∷ fs) e =
      elim (cases_lt k (length chs)) [
        | inr past ↦ absurd (omega (arith, ap length (e ∙ drop_all k chs past)))
        | inl low ↦
            let here : f ∷ fs ≡ get_or chs k 0 ∷ drop (k + 1) chs = e ∙ drop_more chs k 0 low in
            let first : f ≡ get_or chs k 0 = cc in
            let rest : fs ≡ drop (k + 1) chs = cc in
            let x = beside khzs in
            elim (cases_Bool (is_spare x s.profile s.zone f)) [
              | inl found ↦
                  let next : List ℕ = taken_from (beside (khzs ++ f ∷ [])) s.profile s.zone wanted (k + 1) fs in
                  let taken : taken_from x s.profile s.zone (suc wanted) k (f ∷ fs) ≡ k ∷ next =
                  rw found (ap (λ y. k ∷ taken_from y s.profile s.zone wanted (k + 1) fs) (grown-is s khzs f)) in
                  ap (λ ks. analysis (beside (khzs ++ map (slice_index chs) ks))) taken
                  ∙ ap (λ g. analysis (beside (khzs ++ g ∷ map (slice_index chs) next))) (sym first)
                  ∙ ap (λ zs. analysis (beside zs)) (sym (append_assoc khzs (f ∷ []) (map (slice_index chs) next)))
                  ∙ law-from (khzs ++ f ∷ []) wanted (k + 1) fs rest ∙ step khzs f k low first found
              | inr other ↦
                  let passed : taken_from x s.profile s.zone (suc wanted) k (f ∷ fs) ≡ taken_from x s.profile s.zone (suc wanted) (k + 1) fs = rw other refl in
                  ap (λ ks. analysis (beside (khzs ++ map (slice_index chs) ks))) passed ∙ law-from khzs (suc wanted) (k + 1) fs rest
            ]
      ]

  pub law : (count : ℕ) → analysis (with_channels s.show s.profile s.zone (chosen s.show s.profile s.zone count)) ≡ analysis s.show
  law count =
      let own : channels_at s.show s.profile ≡ chs = let is = known.is in rw is refl in
      ap (λ cs. analysis (beside (map (slice_index cs) (taken_from s.show s.profile s.zone count 0 cs)))) own
      ∙ ap (λ y. analysis (beside (map (slice_index chs) (taken_from y s.profile s.zone count 0 chs)))) (sym (none-added s))
      ∙ law-from [] count 0 chs refl ∙ ap analysis (none-added s)
