-- A plan is applied as one edit.
use Rattle.std.proofs.Common.{◌≡◌, ℕ, zero, suc, ◌+◌, ◌<◌, ◌≤◌, Bool, true, false, not, ◌&&◌, ◌||◌, cond, find, List, [], ◌∷◌, length, map, nat_le, Option, Some, None, refl, ap, sym, subst}
use Rattle.std.proofs.Common.{◌∙◌, arith, All, slice_get, slice_index, eq-eqb, leb-true}
use Rattle.std.specs.List.{range_with_len}
use Rattle.std.specs.Option.{option_and_then, option_map_or}
use Rattle.std.proofs.lemmas.Bool.{or_from}
use Rattle.std.proofs.lemmas.List.{length-map}
use Rattle.std.proofs.lemmas.List.FromFn.{get_or-map-range_with_len, length-map-range_with_len}
use Rattle.std.proofs.lemmas.List.Elements.{All-append, All-cons, All-head, All-nil, All-tail}
use Rattle.std.proofs.lemmas.Option.{get_or_from_slice_get, option_and_then_some, slice_get_within}
use Rattle.rf_base.specs.Khz.{IsKhz}
use Rattle.rf_log.specs.Case.{IsPlan, freq_of}
use Rattle.rf_profiles.specs.Channels.{IsChannels, RisesFrom, channels}
use Rattle.rf_profiles.specs.Range.{climb, frequencies, Span}
use Rattle.rf_profiles.specs.declared.profile.Profile.{Profile}
use Rattle.rf_show.specs.declared.carrier.Carrier.{Carrier}
use Rattle.rf_show.specs.declared.refusal.Refusal.TheVariants.{Number, Locked}
use Rattle.rf_show.specs.Case.{Agree, case_of, channels_of}
use Rattle.rf_show.specs.Query.{is_banned, may_stand, may_stand_at, may_take, profile_of}
use Rattle.rf_show.specs.Reasons.{first_reason, moves_locked, same_at}
use Rattle.rf_show.specs.Show.{ShowData, is_profile}
use Rattle.rf_solving.specs.Placing.{IsAdmitted, plan_edit}
use Rattle.rf_solving.specs.Solving.{plan_freqs}

-- ---- a carrier that may stand there isn't moved

unmoved : (locked : Bool) (at : Option ℕ) (f : ℕ) → (not locked || same_at at (Some f)) ≡ true → (locked && not (same_at at (Some f))) ≡ false
unmoved false at f h = refl
unmoved true at f h = ap not h

-- no locked carrier moves where each may stand at its new frequency
none_moves : (cs : List Carrier) (f : ℕ → ℕ) (from : ℕ) → ((i n : ℕ) (c : Carrier) → from + i ≡ n → slice_get cs i ≡ Some c → may_stand c (f n) ≡ true)
    → moves_locked cs (map Some (map f (range_with_len from (length cs)))) ≡ false
none_moves [] f from h = refl
none_moves (c ∷ cs) f from h =
    or_from _ _ (unmoved c.locked c.at (f from) (h 0 from c (omega arith) refl))
    (none_moves cs f (from + 1) (λ i n d e is. h (suc i) n d (omega (arith, e)) is))

-- ---- a carrier may stand at its frequency in a plan

right_true : (a b : Bool) → (a && b) ≡ true → b ≡ true
right_true true b h = h
right_true false b h = cc

standing : (show : ShowData) (c f : ℕ) (carrier : Carrier) → slice_get show.carriers c ≡ Some carrier → may_stand_at show c f ≡ true → may_stand carrier f ≡ true
standing show c f carrier is h = sym (ap (λ o. option_map_or (λ (x : Carrier). may_stand x f) o false) is) ∙ h

-- what may be taken is the channel's frequency
taken : (show : ShowData) (c k : ℕ) (carrier : Carrier) (o : Option Profile) → slice_get show.carriers c ≡ Some carrier
    → option_map_or (λ f. may_take show c f) (option_and_then (λ (p : Profile). slice_get (channels p.channels) k) o) false ≡ true
    → may_stand carrier (slice_index (option_map_or (λ (p : Profile). channels p.channels) o []) k) ≡ true
taken show c k carrier None is h = cc
taken show c k carrier (Some p) is h = at_channel (slice_get (channels p.channels) k) refl h
  where
    at_channel : (o : Option ℕ) → slice_get (channels p.channels) k ≡ o → option_map_or (λ f. may_take show c f) o false ≡ true
        → may_stand carrier (slice_index (channels p.channels) k) ≡ true
    at_channel None e t = cc
    at_channel (Some f) e t =
        ap (λ g. may_stand carrier g) (get_or_from_slice_get (channels p.channels) k f 0 e)
        ∙ standing show c f carrier is (right_true (not (is_banned show c f)) _ t)

planned : (show : ShowData) (plan : List ℕ) → Agree show (case_of show) → IsPlan (case_of show) plan → (c : ℕ) (carrier : Carrier) → slice_get show.carriers c ≡ Some carrier
    → may_stand carrier (freq_of (case_of show) c (slice_index plan c)) ≡ true
planned show plan agree is c carrier there =
    let low : c < length show.carriers = slice_get_within show.carriers c carrier there in
    let in_plan : c < length plan = omega (arith, low, is.full, agree.carriers) in
    ap (λ fs. may_stand carrier (slice_index fs (slice_index plan c))) (agree.freqs c low)
    ∙ taken show c (slice_index plan c) carrier (profile_of show c) there (sym (agree.allowed c (slice_index plan c) low) ∙ is.allowed c in_plan)

-- ---- there is no reason against it

no_reason : (a b : Bool) → a ≡ true → b ≡ false → first_reason ((not a, Number) ∷ (b, Locked) ∷ []) ≡ None
no_reason a b ha hb = rw (ha, hb) refl

each_placed : (show : ShowData) (plan : List ℕ) → length (map Some (plan_freqs show plan)) ≡ length show.carriers
each_placed show plan =
    length-map (plan_freqs show plan) Some
    ∙ length-map-range_with_len (λ c. freq_of (case_of show) c (slice_index plan c)) 0 (length show.carriers)

pub admitted : (show : ShowData) (plan : List ℕ) → Agree show (case_of show) → IsPlan (case_of show) plan → IsAdmitted show (plan_edit show plan)
admitted show plan agree is = record {
  form = refl;
  free =
      no_reason _ _ (eq-eqb _ _ (each_placed show plan))
      (none_moves show.carriers (λ c. freq_of (case_of show) c (slice_index plan c)) 0
      (λ i n c e there. planned show plan agree is n c (sym (ap (λ m. slice_get show.carriers m) (omega (arith, e))) ∙ there)));
}

-- ---- its frequencies are in kilohertz

khz_cond : (b : Bool) (f : ℕ) (rest : List ℕ) → (b ≡ true → IsKhz f) → All IsKhz rest → All IsKhz (cond b (f ∷ rest) [])
khz_cond true f rest h all = All-cons IsKhz f rest (h refl) all
khz_cond false f rest h all = All-nil IsKhz

khz_climb : (n f to step : ℕ) → 1 ≤ f → to ≤ 10000000 → All IsKhz (climb n f to step)
unfolding climb
khz_climb zero f to step low high = All-nil IsKhz
khz_climb (suc n) f to step low high =
    khz_cond (nat_le f to) f (climb n (f + step) to step) (λ b. (low, omega (arith, high, leb-true f to b))) (khz_climb n (f + step) to step (omega (arith, low)) high)

khz_range : (r : Span) → 1 ≤ r.from → r.to ≤ 10000000 → All IsKhz (frequencies r)
unfolding frequencies
khz_range r low high = khz_climb r.to r.from r.to r.step low high

khz_ranges : (last : ℕ) (rs : List Span) → RisesFrom last rs → All IsKhz (channels rs)
khz_ranges last [] h = All-nil IsKhz
khz_ranges last (r ∷ rs) h = All-append IsKhz (frequencies r) (channels rs) (khz_range r h.0.low.0 h.0.high.1) (khz_ranges r.to rs h.2)

found_cond : {X : Type 0} (P : X → Type 0) (b : Bool) (x y : X) (rest : Option X) → cond b (Some x) rest ≡ Some y → P x → (rest ≡ Some y → P y) → P y
found_cond P true x y rest e h k = let same : x ≡ y = cc in subst P same h
found_cond P false x y rest e h k = k e

found_is : {X : Type 0} (P : X → Type 0) (p : X → Bool) (xs : List X) (y : X) → All P xs → find p xs ≡ Some y → P y
found_is P p [] y all e = cc
found_is P p (x ∷ xs) y all e = found_cond P (p x) x y (find p xs) e (All-head P x xs all) (found_is P p xs y (All-tail P x xs all))

khz_profile : (o : Option Profile) → ((p : Profile) → o ≡ Some p → IsChannels p.channels) → All IsKhz (option_map_or (λ (p : Profile). channels p.channels) o [])
khz_profile None h = All-nil IsKhz
khz_profile (Some p) h = khz_ranges 0 p.channels (h p refl).rising

khz_channels : (show : ShowData) → All (λ (p : Profile). IsChannels p.channels) show.profiles → (c : ℕ) → All IsKhz (channels_of show c)
khz_channels show all c =
    khz_profile (profile_of show c)
    (λ p e. option_and_then_some (λ (carrier : Carrier). find (is_profile carrier.profile) show.profiles) (slice_get show.carriers c) p e
    (λ carrier there found. found_is (λ (q : Profile). IsChannels q.channels) (is_profile carrier.profile) show.profiles p all found))

khz_planned : (show : ShowData) (plan : List ℕ) → Agree show (case_of show) → All (λ (p : Profile). IsChannels p.channels) show.profiles → IsPlan (case_of show) plan
    → (c : ℕ) → c < length show.carriers → IsKhz (freq_of (case_of show) c (slice_index plan c))
khz_planned show plan agree all is c low =
    let freqs = agree.freqs c low in
    let in_plan : c < length plan = omega (arith, low, is.full, agree.carriers) in
    subst IsKhz (sym (ap (λ fs. slice_index fs (slice_index plan c)) freqs))
    (khz_channels show all c (slice_index plan c) 0 (omega (arith, is.known c in_plan, ap length freqs)))

pub in_khz : (show : ShowData) (plan : List ℕ) → Agree show (case_of show) → All (λ (p : Profile). IsChannels p.channels) show.profiles → IsPlan (case_of show) plan
    → All IsKhz (plan_freqs show plan)
in_khz show plan agree all is k d low =
    let freq : ℕ → ℕ = λ c. freq_of (case_of show) c (slice_index plan c) in
    let within : k < length show.carriers = omega (arith, low, length-map-range_with_len freq 0 (length show.carriers)) in
    subst IsKhz (sym (get_or-map-range_with_len freq 0 (length show.carriers) k k d within (omega arith))) (khz_planned show plan agree all is k within)
