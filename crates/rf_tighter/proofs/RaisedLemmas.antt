-- Raising keeps channels, what is allowed and who is together, and makes no margin less.
use Rattle.std.proofs.Common.{◌≡◌, ℕ, zero, suc, ◌<◌, ◌≤◌, Bool, true, false, not, ◌&&◌, ◌||◌, cond, find, List, [], ◌∷◌, length, map, max, Option, Some, None, refl, ap, sym, subst, ◌∙◌, arith}
use Rattle.std.specs.Prelude.{All, slice_get, slice_index, ◌-◌}
use Rattle.std.specs.Option.{option_and_then, option_map_or}
use Rattle.std.proofs.Math.Path.{fun_ext}
use Rattle.rf_terms.specs.Kinds as table
use Rattle.rf_terms.specs.declared.kind.Kind.{Kind}
use Rattle.rf_terms.specs.declared.kind.Kind.TheVariants.{Spacing}
use Rattle.rf_terms.specs.declared.kind.Margin.{Margin}
use Rattle.rf_terms.specs.declared.kind.Margin.TheVariants.{Spacing as OfSpacing}
use Rattle.rf_profiles.specs.Channels.{channels}
use Rattle.rf_profiles.specs.Profile as profile
use Rattle.rf_profiles.specs.declared.profile.Profile.{Profile}
use Rattle.rf_log.specs.Case as case
use Rattle.rf_log.specs.Case.{IsPlan}
use Rattle.rf_show.specs.Case.{CaseIsAsked, case_of, channels_of}
use Rattle.rf_show.specs.Query as query
use Rattle.rf_show.specs.Query.{bans_touch, channel_of, half_of, are_joined, is_banned, is_together, may_stand_at, may_take, profile_of, scans_touch}
use Rattle.rf_show.specs.Show.{ShowData, is_profile}
use Rattle.rf_show.specs.declared.carrier.Carrier.{Carrier}
use Rattle.rf_profiles.specs.Profile.{wider, wider_profile}
use Rattle.rf_profiles.proofs.WiderLaws.{wider_by_none}
use Rattle.rf_show.specs.Raised.{raised}
use Rattle.rf_tighter.specs.Raised.{IsSameChoice}
use Rattle.rf_tighter.specs.Tighter.{IsTighter}
use Rattle.rf_tighter.proofs.TighterLemmas.{instance-same, parts_of, size_is, tighter-plan}
use Rattle.rf_base.proofs.ListLaws.{all_below}

-- ---- raised by nothing

profiles-none : (ps : List Profile) → map (wider_profile 0) ps ≡ ps
profiles-none [] = refl
profiles-none (p ∷ ps) = ap (λ q. q ∷ map (wider_profile 0) ps) (wider_by_none p) ∙ ap (λ qs. p ∷ qs) (profiles-none ps)

pub raised-none : (show : ShowData) → raised show 0 ≡ show
raised-none show = ap (λ ps. record show { profiles = ps }) (profiles-none show.profiles)

-- ---- the profile of a carrier

abbrev wider_one : ℕ → Option Profile → Option Profile
wider_one d None = None
wider_one d (Some p) = Some (wider_profile d p)

cond-wider : (d : ℕ) (b : Bool) (p : Profile) (rest wide : Option Profile) → wide ≡ wider_one d rest → cond b (Some (wider_profile d p)) wide ≡ wider_one d (cond b (Some p) rest)
cond-wider d true p rest wide e = refl
cond-wider d false p rest wide e = e

find-wider : (d : ℕ) (name : List ℕ) (ps : List Profile) → find (is_profile name) (map (wider_profile d) ps) ≡ wider_one d (find (is_profile name) ps)
find-wider d name [] = refl
find-wider d name (p ∷ ps) = cond-wider d (is_profile name p) p _ _ (find-wider d name ps)

found-wider : (d : ℕ) (ps : List Profile) (o : Option Carrier)
    → option_and_then (λ (c : Carrier). find (is_profile c.profile) (map (wider_profile d) ps)) o ≡ wider_one d (option_and_then (λ (c : Carrier). find (is_profile c.profile) ps) o)
found-wider d ps None = refl
found-wider d ps (Some c) = find-wider d c.profile ps

profile-raised : (show : ShowData) (d c : ℕ) → profile_of (raised show d) c ≡ wider_one d (profile_of show c)
profile-raised show d c = found-wider d show.profiles (slice_get show.carriers c)

-- ---- what is read of it

map_or-wider : {X : Type 0} (f : Profile → X) (z : X) (d : ℕ) → ((p : Profile) → f (wider_profile d p) ≡ f p) → (o : Option Profile) → option_map_or f (wider_one d o) z ≡ option_map_or f o z
map_or-wider f z d same None = refl
map_or-wider f z d same (Some p) = same p

pub channels-raised : (show : ShowData) (d c : ℕ) → channels_of (raised show d) c ≡ channels_of show c
channels-raised show d c =
    ap (λ o. option_map_or (λ (p : Profile). channels p.channels) o []) (profile-raised show d c)
    ∙ map_or-wider (λ (p : Profile). channels p.channels) [] d (λ p. refl) (profile_of show c)

half-raised : (show : ShowData) (d c : ℕ) → half_of (raised show d) c ≡ half_of show c
half-raised show d c =
    ap (λ o. option_map_or (λ (p : Profile). p.half) o 0) (profile-raised show d c)
    ∙ map_or-wider (λ (p : Profile). p.half) 0 d (λ p. refl) (profile_of show c)

channel-wider : (d k : ℕ) (o : Option Profile)
    → option_and_then (λ (p : Profile). slice_get (channels p.channels) k) (wider_one d o) ≡ option_and_then (λ (p : Profile). slice_get (channels p.channels) k) o
channel-wider d k None = refl
channel-wider d k (Some p) = refl

channel-raised : (show : ShowData) (d c k : ℕ) → channel_of (raised show d) c k ≡ channel_of show c k
channel-raised show d c k =
    ap (λ o. option_and_then (λ (p : Profile). slice_get (channels p.channels) k) o) (profile-raised show d c)
    ∙ channel-wider d k (profile_of show c)

-- ---- what is allowed

banned-raised : (show : ShowData) (d c f : ℕ) → is_banned (raised show d) c f ≡ is_banned show c f
unfolding is_banned
banned-raised show d c f =
    ap (λ half. option_map_or (λ (x : Carrier). bans_touch show.bans x.zone half f || scans_touch show.scans x.zone half f) (slice_get show.carriers c) false)
    (half-raised show d c)

take-raised : (show : ShowData) (d c f : ℕ) → may_take (raised show d) c f ≡ may_take show c f
take-raised show d c f = ap (λ b. not b && may_stand_at show c f) (banned-raised show d c f)

pub allowed-raised : (show : ShowData) (d c k : ℕ) → query.is_allowed (raised show d) c k ≡ query.is_allowed show c k
allowed-raised show d c k =
    ap (λ o. option_map_or (λ f. may_take (raised show d) c f) o false) (channel-raised show d c k)
    ∙ ap (λ g. option_map_or g (channel_of show c k) false) (fun_ext (λ f. take-raised show d c f))

pub allowed-same : CaseIsAsked → (show : ShowData) (d c k : ℕ) → c < length show.carriers → case.is_allowed (case_of (raised show d)) c k ≡ case.is_allowed (case_of show) c k
allowed-same agree show d c k low =
    (agree (raised show d)).allowed c k low ∙ allowed-raised show d c k ∙ sym ((agree show).allowed c k low)

pub choice-same : CaseIsAsked → (show : ShowData) (d : ℕ) → IsSameChoice (case_of (raised show d)) (case_of show)
choice-same agree show d = record {
  carriers = (agree (raised show d)).carriers ∙ sym (agree show).carriers;
  freqs = λ c low.
      let in_show : c < length show.carriers = omega (arith, low, (agree show).carriers) in
      (agree (raised show d)).freqs c in_show ∙ channels-raised show d c ∙ sym ((agree show).freqs c in_show);
  allowed = λ c k low. allowed-same agree show d c k (omega (arith, low, (agree show).carriers));
}

-- ---- margins

asked-margin : (d : ℕ) (p : Profile) (m : Margin) → profile.asked (wider_profile d p) m ≡ wider d (profile.asked p m)
asked-margin d p OfSpacing = refl
asked-margin d p _ = refl

asked-wider : (d : ℕ) (kind : Kind) (o : Option Profile)
    → option_map_or (λ (p : Profile). profile.margin_of p kind) (wider_one d o) 0 ≡ wider d (option_map_or (λ (p : Profile). profile.margin_of p kind) o 0)
asked-wider d kind None = refl
asked-wider d kind (Some p) = asked-margin d p (table.margin_of kind)

asked-raised : (show : ShowData) (d : ℕ) (kind : Kind) (c : ℕ) → query.asked (raised show d) kind c ≡ wider d (query.asked show kind c)
asked-raised show d kind c =
    ap (λ o. option_map_or (λ (p : Profile). profile.margin_of p kind) o 0) (profile-raised show d c)
    ∙ asked-wider d kind (profile_of show c)

wider-more : (less more n : ℕ) → less ≤ more → wider less n ≤ wider more n
wider-more less more zero h = omega arith
wider-more less more (suc n) h = omega (arith, h)

asked-more : (show : ShowData) (less more : ℕ) → less ≤ more → (kind : Kind) (c : ℕ) → query.asked (raised show less) kind c ≤ query.asked (raised show more) kind c
asked-more show less more h kind c =
    omega (arith, asked-raised show less kind c, asked-raised show more kind c, wider-more less more (query.asked show kind c) h)

max-more : (a b c d : ℕ) → a ≤ c → b ≤ d → max a b ≤ max c d
max-more a b c d h k = grind (arith, h, k)

margin-more : (show : ShowData) (less more : ℕ) → less ≤ more → (kind : Kind) (roles : List ℕ) → query.margin_of (raised show less) kind roles ≤ query.margin_of (raised show more) kind roles
margin-more show less more h Spacing roles =
    max-more _ _ _ _ (asked-more show less more h Spacing (slice_index roles 0)) (asked-more show less more h Spacing (slice_index roles 1))
margin-more show less more h kind roles = asked-more show less more h kind (slice_index roles (table.roles_of kind - 1))

-- ---- together

together-raised : (show : ShowData) (d : ℕ) (set : List ℕ) → is_together (raised show d) set ≡ is_together show set
unfolding are_joined
together-raised show d set = refl

tighter-raised : CaseIsAsked → (show : ShowData) (less more : ℕ) → less ≤ more → IsTighter (case_of (raised show less)) (case_of (raised show more))
tighter-raised agree show less more h =
    let low = agree (raised show less) in
    let high = agree (raised show more) in
    let size : length (case_of (raised show less)).carriers ≡ length (case_of (raised show more)).carriers = low.carriers ∙ sym high.carriers in
    record {
      carriers = size;
      freqs = λ c l.
          let in_show : c < length show.carriers = omega (arith, l, high.carriers) in
          low.freqs c in_show ∙ channels-raised show less c ∙ sym (channels-raised show more c) ∙ sym (high.freqs c in_show);
      allowed = λ c k l t.
          let in_show : c < length show.carriers = omega (arith, l, high.carriers) in
          allowed-same agree show less c k in_show ∙ sym (allowed-same agree show more c k in_show) ∙ t;
      instances = instance-same (case_of (raised show less)) (case_of (raised show more)) size
          (λ set below distinct some few.
          let in_show : All (λ c. c < length show.carriers) set = subst (λ n. All (λ c. c < n) set) low.carriers below in
          low.together set in_show distinct some few ∙ together-raised show less set ∙ sym (together-raised show more set)
          ∙ sym (high.together set in_show distinct some few));
      margins = λ kind roles t.
          let p = parts_of (case_of (raised show more)) kind roles t in
          let n = size_is (case_of (raised show more)) kind roles p in
          let in_show : All (λ c. c < length show.carriers) roles =
          subst (λ n. All (λ c. c < n) roles) high.carriers (all_below (length (case_of (raised show more)).carriers) roles p.below) in
          omega (arith, low.margin kind roles n in_show, high.margin kind roles n in_show, margin-more show less more h kind roles);
    }

pub raised-plan : CaseIsAsked → (show : ShowData) (less more : ℕ) (plan : List ℕ) → less ≤ more → IsPlan (case_of (raised show more)) plan → IsPlan (case_of (raised show less)) plan
raised-plan agree show less more plan h is = tighter-plan _ _ plan (tighter-raised agree show less more h) is
