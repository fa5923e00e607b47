-- The case of a show.
use Rattle.std.proofs.Common.{◌≡◌, ℕ, ◌-◌, ◌<◌, ◌≤◌, Bool, true, false, ◌&&◌, ◌||◌, List, [], ◌∷◌, length, map, max, get_or, Option, Some, None, refl, ap, sym, ◌∙◌, arith, inl, inr, zero, suc}
use Rattle.std.specs.Prelude.{All, slice_get, slice_index, ◌==◌}
use Rattle.std.specs.List.{list_all, range_with_len}
use Rattle.std.specs.Option.{option_map_or, option_and_then}
use Rattle.std.proofs.Math.ListN.{get_or-eq_default}
use Rattle.std.proofs.Math.Path.{fun_ext}
use Rattle.std.proofs.lemmas.Bool.{cases_lt, and_from, and_parts}
use Rattle.std.proofs.lemmas.Bool.Decides.{nat_tests}
use Rattle.std.proofs.lemmas.Option.{slice_get_past}
use Rattle.std.proofs.lemmas.List.FromFn.{get_or-map-range_with_len, length-map-range_with_len}
use Rattle.rf_terms.specs.declared.kind.Kind.{Kind}
use Rattle.rf_terms.specs.declared.kind.Kind.TheVariants.{Spacing}
use Rattle.rf_terms.specs.declared.kind.Margin.{Margin}
use Rattle.rf_terms.specs.Kinds as table
use Rattle.rf_terms.specs.Kinds.{place_of, roles_of}
use Rattle.rf_terms.proofs.KindLaws.{two_roles}
use Rattle.rf_log.specs.Case as case
use Rattle.rf_log.specs.Case.{are_distinct, are_together, carrier_of, is_among, no_carrier}
use Rattle.rf_log.specs.Laws.{IsOfSets, SetsAreTested}
use Rattle.rf_profiles.specs.Channels.{channels}
use Rattle.rf_profiles.specs.Profile as profile
use Rattle.rf_profiles.specs.Profile.{margin_widths}
use Rattle.rf_profiles.specs.declared.profile.Profile.{Profile}
use Rattle.rf_zones.specs.Zones.{ZonesData}
use Rattle.rf_zones.specs.Slices.{on_at, share_minute, some_below}
use Rattle.rf_show.specs.declared.carrier.Carrier.{Carrier}
use Rattle.rf_show.specs.Show.{ShowData}
use Rattle.rf_show.specs.Query as query
use Rattle.rf_show.specs.Query.{all_meet, are_joined, channel_of, is_together, meet_at, profile_of}
use Rattle.rf_show.specs.Case.{Agree, asked, case_carrier, case_of, channels_of}
use Rattle.rf_base.proofs.ListLaws.{tested_below}
use Rattle.rf_base.proofs.BoolLaws.{same_test}

-- ---- its carriers

length-case : (show : ShowData) → length (case_of show).carriers ≡ length show.carriers
unfolding case_of
length-case show = length-map-range_with_len (case_carrier show) 0 (length show.carriers)

carrier-case : (show : ShowData) (c : ℕ) → c < length show.carriers → carrier_of (case_of show) c ≡ case_carrier show c
unfolding case_of
carrier-case show c low = get_or-map-range_with_len (case_carrier show) 0 (length show.carriers) c c no_carrier low (omega arith)

freqs-case : (show : ShowData) (c : ℕ) → c < length show.carriers → (carrier_of (case_of show) c).freqs ≡ channels_of show c
unfolding case_carrier
freqs-case show c low = ap (λ (x : case.Carrier). x.freqs) (carrier-case show c low)

past_channels : (show : ShowData) (c k : ℕ) (o : Option Profile) → length (option_map_or (λ (p : Profile). channels p.channels) o []) ≤ k
    → option_and_then (λ (p : Profile). slice_get (channels p.channels) k) o ≡ None
past_channels show c k None h = refl
past_channels show c k (Some p) h = slice_get_past (channels p.channels) k h

allowed-listed : (show : ShowData) (c k : ℕ) → get_or (map (query.is_allowed show c) (range_with_len 0 (length (channels_of show c)))) k false ≡ query.is_allowed show c k
allowed-listed show c k = elim (cases_lt k (length (channels_of show c))) [
  | inl low ↦ get_or-map-range_with_len (query.is_allowed show c) 0 (length (channels_of show c)) k k false low (omega arith)
  | inr high ↦
      let none : channel_of show c k ≡ None = past_channels show c k (profile_of show c) high in
      let length_is = length-map-range_with_len (query.is_allowed show c) 0 (length (channels_of show c)) in
      get_or-eq_default (map (query.is_allowed show c) (range_with_len 0 (length (channels_of show c)))) false (omega (arith, high, length_is))
      ∙ sym (ap (λ o. option_map_or (λ f. query.may_take show c f) o false) none)
]

allowed-case : (show : ShowData) (c k : ℕ) → c < length show.carriers → case.is_allowed (case_of show) c k ≡ query.is_allowed show c k
unfolding case_carrier
allowed-case show c k low = ap (λ (x : case.Carrier). get_or x.allowed k false) (carrier-case show c low) ∙ allowed-listed show c k

-- ---- its margins

none-asked : (k : ℕ) → slice_index (0 ∷ []) k ≡ 0
none-asked zero = refl
none-asked (suc k) = refl

asked-place : (o : Option Profile) (m : Margin) → slice_index (option_map_or (λ (p : Profile). p.spacing) o 0 ∷ option_map_or (λ (p : Profile). margin_widths p.margins) o []) (place_of m)
    ≡ option_map_or (λ p. profile.asked p m) o 0
asked-place None m = none-asked (place_of m)
asked-place (Some p) m = refl

asked-carrier : (show : ShowData) (c : ℕ) (m : Margin) → case.asked (case_carrier show c) m ≡ asked show c m
unfolding case_carrier
asked-carrier show c m = asked-place (profile_of show c) m

asked-case : (show : ShowData) (kind : Kind) (c : ℕ) → c < length show.carriers → case.asked_by (case_of show) kind c ≡ query.asked show kind c
asked-case show kind c low = ap (λ x. case.asked x (table.margin_of kind)) (carrier-case show c low) ∙ asked-carrier show c (table.margin_of kind)

margin-case : (show : ShowData) (kind : Kind) (roles : List ℕ) → length roles ≡ roles_of kind → All (λ c. c < length show.carriers) roles
    → case.margin_of (case_of show) kind roles ≡ query.margin_of show kind roles
margin-case show Spacing roles n low =
    ap (λ a. max a (case.asked_by (case_of show) Spacing (slice_index roles 1))) (asked-case show Spacing (slice_index roles 0) (low 0 0 (omega (arith, n))))
    ∙ ap (λ a. max (query.asked show Spacing (slice_index roles 0)) a) (asked-case show Spacing (slice_index roles 1) (low 1 0 (omega (arith, n))))
margin-case show kind roles n low = asked-case show kind (slice_index roles (roles_of kind - 1)) (low (roles_of kind - 1) 0 (omega (arith, n, two_roles kind)))

-- ---- which of them are together

passes_cond : (b : Bool) (p : ℕ → Bool) (x c : ℕ) (rest : Bool) → (x == c) ≡ b → (b || rest) ≡ true → p x ≡ true → (rest ≡ true → p c ≡ true) → p c ≡ true
passes_cond true p x c rest e h now next = let same : x ≡ c = grind (arith, nat_tests, e) in sym (ap p same) ∙ now
passes_cond false p x c rest e h now next = next h

passes-among : (p : ℕ → Bool) (t : List ℕ) (c : ℕ) → is_among t c ≡ true → list_all p t ≡ true → p c ≡ true
passes-among p [] c h all = cc
passes-among p (x ∷ xs) c h all =
    let parts = and_parts (p x) _ all in
    passes_cond (x == c) p x c (is_among xs c) refl h parts.0 (λ i. passes-among p xs c i parts.1)

all-among : (p : ℕ → Bool) (s t : List ℕ) → list_all (is_among t) s ≡ true → list_all p t ≡ true → list_all p s ≡ true
all-among p [] t h all = refl
all-among p (c ∷ cs) t h all =
    let parts = and_parts (is_among t c) _ h in
    and_from _ _ (passes-among p t c parts.0 all) (all-among p cs t parts.1 all)

all-same : (p : ℕ → Bool) (s t : List ℕ) → list_all (is_among t) s ≡ true → list_all (is_among s) t ≡ true → list_all p s ≡ list_all p t
all-same p s t to from = same_test _ _ (all-among p t s from) (all-among p s t to)

meet-same : (size : ℕ) (zones : ZonesData) (carriers : List Carrier) (s t : List ℕ) → list_all (is_among t) s ≡ true → list_all (is_among s) t ≡ true
    → all_meet size zones carriers s ≡ all_meet size zones carriers t
meet-same size zones carriers s t to from =
    let each : (λ a. list_all (λ b. meet_at size zones carriers a b) s) ≡ (λ a. list_all (λ b. meet_at size zones carriers a b) t) =
    fun_ext (λ a. all-same (λ b. meet_at size zones carriers a b) s t to from) in
    ap (λ f. list_all f s) each ∙ all-same (λ a. list_all (λ b. meet_at size zones carriers a b) t) s t to from

share-same : (times : List (List (ℕ × ℕ))) (s t : List ℕ) → list_all (is_among t) s ≡ true → list_all (is_among s) t ≡ true → share_minute times s ≡ share_minute times t
unfolding share_minute
share-same times s t to from = ap (some_below 10080) (fun_ext (λ minute. all-same (on_at times minute) s t to from))

joined-same : (show : ShowData) (size : ℕ) (s t : List ℕ) → list_all (is_among t) s ≡ true → list_all (is_among s) t ≡ true → are_joined show size s ≡ are_joined show size t
unfolding are_joined
joined-same show size s t to from =
    ap (λ b. b && share_minute (map (λ (c : Carrier). c.times) show.carriers) s) (meet-same size show.zones show.carriers s t to from)
    ∙ ap (λ b. all_meet size show.zones show.carriers t && b) (share-same (map (λ (c : Carrier). c.times) show.carriers) s t to from)

together-same : (show : ShowData) → IsOfSets (is_together show)
together-same show = record {
  same = λ s t many to from. ap (λ size. are_joined show size s) many ∙ joined-same show (length t) s t to from;
}

together-case : SetsAreTested → (show : ShowData) (set : List ℕ) → All (λ c. c < length show.carriers) set → are_distinct set ≡ true → 2 ≤ length set → length set ≤ 4
    → are_together (case_of show) set ≡ is_together show set
unfolding case_of
together-case tested show set low distinct some few =
    tested (is_together show) (length show.carriers) set (together-same show) (tested_below (length show.carriers) set low) distinct some few

pub agree : SetsAreTested → (show : ShowData) → Agree show (case_of show)
agree tested show = record {
  carriers = length-case show;
  freqs = freqs-case show;
  allowed = allowed-case show;
  margin = margin-case show;
  together = together-case tested show;
}
