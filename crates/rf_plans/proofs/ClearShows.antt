-- A show that stands on a plan has nothing to report.
use Rattle.std.proofs.Common.{◌≡◌, ◌<◌, ◌∙◌, ℕ, zero, suc, Bool, true, false, ◌&&◌, ◌||◌, not, List, [], ◌∷◌, filter, length, map, get_or, arith, refl, ap, sym, Some, None}
use Rattle.std.specs.Prelude.{◌==◌, if◌then◌else◌, slice_get, slice_index}
use Rattle.std.specs.declared.option.Option.{Option}
use Rattle.std.specs.List.{flat_map, list_any}
use Rattle.std.specs.Option.{option_and_then, option_map_or}
use Rattle.std.proofs.Math.Path.{fun_ext}
use Rattle.std.proofs.lemmas.Bool.{and_parts, eq-eqb}
use Rattle.std.proofs.lemmas.List.{ext_get_or, length-map}
use Rattle.std.proofs.lemmas.List.Folds.{list_any_at}
use Rattle.std.proofs.lemmas.Option.{get_or_from_slice_get, slice_get_within}
use Rattle.rf_terms.specs.Kinds.{kinds, roles_of}
use Rattle.rf_terms.specs.declared.kind.Kind.{Kind}
use Rattle.rf_profiles.specs.Channels.{channels}
use Rattle.rf_profiles.specs.declared.profile.Profile.{Profile}
use Rattle.rf_show.specs.Query.{channel_of, is_banned, may_stand_at, profile_of}
use Rattle.rf_show.specs.Show.{ShowData}
use Rattle.rf_show.specs.declared.carrier.Carrier.{Carrier}
use Rattle.rf_rules.specs.Analyses.{banned_carriers, conflicts_of, is_off_grid, off_grid, stands_banned}
use Rattle.rf_rules.specs.Conflicts.{conflict_of}
use Rattle.rf_rules.specs.Instances.{at_in, ats_of, is_broken}
use Rattle.rf_rules.specs.Plans.{IsPlan, planned}
use Rattle.rf_rules.specs.Tuples.{tuples, upto}
use Rattle.rf_rules.specs.declared.conflict.Conflict.TheVariants.{Banned, OffGrid}
use Rattle.rf_rules.proofs.PlanLaws.{broken-none}
use Rattle.rf_rules.proofs.TupleLaws.{any-none}
use Rattle.rf_plans.specs.Clear.{IsClear, StandOn}
use Rattle.rf_plans.proofs.Alike.{Alike, broken_alike}
use Rattle.rf_plans.proofs.Planned.{length_planned, planned_at}

-- ---- lists of which nothing is taken

left : {X : Type 0} (found : Bool) (x : X) (some : Bool) (rest : List X) → (found || some) ≡ false → (some ≡ false → rest ≡ []) → (if found then x ∷ rest else rest) ≡ []
left true x some rest h more = cc
left false x some rest h more = more h

none_left : {X : Type 0} (test : X → Bool) (xs : List X) → list_any test xs ≡ false → filter test xs ≡ []
none_left test [] h = refl
none_left test (x ∷ xs) h = left (test x) x (list_any test xs) (filter test xs) h (none_left test xs)

nothing_of : {X Y : Type 0} (f : X → List Y) (xs : List X) → ((x : X) → f x ≡ []) → flat_map f xs ≡ []
nothing_of f [] h = refl
nothing_of f (x ∷ xs) h = let here = h x in rw here (nothing_of f xs h)

-- ---- a channel of a carrier is on its grid

listed : (fs : List ℕ) (k : ℕ) (o : Option ℕ) → slice_get fs k ≡ o → option_map_or (λ f. not (list_any (λ g. f == g) fs)) o false ≡ false
listed fs k None e = refl
listed fs k (Some f) e =
    let is : get_or fs k f ≡ f = get_or_from_slice_get fs k f f e in
    ap not (list_any_at (λ g. f == g) fs k f (slice_get_within fs k f e) (eq-eqb _ _ (sym is)))

abbrev is_there : Option Profile → ℕ → Bool
is_there o f = option_map_or (λ (p : Profile). list_any (λ g. f == g) (channels p.channels)) o false

on_grid : (o : Option Profile) (k : ℕ) → option_map_or (λ f. not (is_there o f)) (option_and_then (λ (p : Profile). slice_get (channels p.channels) k) o) false ≡ false
on_grid None k = refl
on_grid (Some p) k = listed (channels p.channels) k (slice_get (channels p.channels) k) refl

-- ---- a channel that is allowed isn't banned

no_ban : (o : Option ℕ) (ban stand : ℕ → Bool) → option_map_or (λ f. not (ban f) && stand f) o false ≡ true → option_map_or ban o false ≡ false
no_ban None ban stand h = refl
no_ban (Some f) ban stand h = free (ban f) (and_parts (not (ban f)) (stand f) h).0
  where
    free : (b : Bool) → not b ≡ true → b ≡ false
    free true e = cc
    free false e = refl

-- ---- a plan of a show, on which the carriers of another stand

module _ (old new : ShowData) (plan : List ℕ) (alike : Alike old new) (is : IsPlan old plan) (stand : ats_of new ≡ planned old plan) (many : length new.carriers ≡ length plan) where
  stands : (c : ℕ) → c < length new.carriers → at_in (ats_of new) c ≡ channel_of old c (slice_index plan c)
  stands c low = ap (λ ats. at_in ats c) stand ∙ planned_at old plan c (omega (arith, low, many))

  none_off : off_grid new ≡ []
  none_off =
      ap (map OffGrid) (none_left (λ c. is_off_grid new c (at_in (ats_of new) c)) (upto (length new.carriers))
      (any-none (λ c. is_off_grid new c (at_in (ats_of new) c)) (length new.carriers) (λ c low.
      ap (λ (there : ℕ → Bool). option_map_or (λ f. not (there f)) (at_in (ats_of new) c) false) (fun_ext (λ f. alike.channel c f))
      ∙ ap (λ at. is_off_grid old c at) (stands c low) ∙ on_grid (profile_of old c) (slice_index plan c))))

  none_banned : banned_carriers new ≡ []
  none_banned =
      ap (map Banned) (none_left (λ c. stands_banned new c (at_in (ats_of new) c)) (upto (length new.carriers))
      (any-none (λ c. stands_banned new c (at_in (ats_of new) c)) (length new.carriers) (λ c low.
      ap (λ (ban : ℕ → Bool). option_map_or (λ f. ban f) (at_in (ats_of new) c) false) (fun_ext (λ f. alike.banned c f))
      ∙ ap (λ at. stands_banned old c at) (stands c low)
      ∙ no_ban (channel_of old c (slice_index plan c)) (λ f. is_banned old c f) (λ f. may_stand_at old c f) (is.allowed c (omega (arith, low, many))))))

  none_broken : (kind : Kind) → conflicts_of new (ats_of new) kind ≡ []
  none_broken kind =
      ap (map (conflict_of new (ats_of new) kind)) (none_left (is_broken new (ats_of new) kind) (tuples (roles_of kind) (upto (length (ats_of new))))
      (broken-none new (ats_of new) kind (λ roles n low.
      broken_alike old new alike (ats_of new) kind roles
      ∙ ap (λ ats. is_broken old ats kind roles) stand
      ∙ is.kept kind roles n (rw (← stand) low))))

  pub all_clear : IsClear new
  all_clear = rw (none_off, none_banned) (nothing_of (conflicts_of new (ats_of new)) kinds none_broken)

-- ---- the show itself

at_place : (cs : List Carrier) (i : ℕ) → get_or (map (λ (c : Carrier). c.at) cs) i None ≡ option_and_then (λ (c : Carrier). c.at) (slice_get cs i)
at_place [] i = refl
at_place (c ∷ cs) zero = refl
at_place (c ∷ cs) (suc i) = at_place cs i

pub stand_on : (show : ShowData) (plan : List ℕ) → length plan ≡ length show.carriers → StandOn show plan → ats_of show ≡ planned show plan
stand_on show plan full stand =
    let many : length (ats_of show) ≡ length show.carriers = length-map show.carriers (λ (c : Carrier). c.at) in
    ext_get_or None (ats_of show) (planned show plan) (many ∙ (sym full ∙ sym (length_planned show plan)))
    (λ c low. at_place show.carriers c ∙ (stand c (omega (arith, low, many)) ∙ sym (planned_at show plan c (omega (arith, low, many, full)))))
