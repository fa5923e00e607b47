-- Fewer locks: only what is allowed changes, and it grows.
use Rattle.std.proofs.Common.{◌≡◌, ℕ, zero, suc, ◌+◌, ◌<◌, Bool, true, false, not, ◌&&◌, ◌||◌, find, List, [], ◌∷◌, length, map, max, Option, Some, None, refl, ap, sym, subst, ◌∙◌, arith}
use Rattle.std.specs.Prelude.{All, slice_get, slice_index, ◌-◌}
use Rattle.std.specs.List.{list_all}
use Rattle.std.specs.Option.{option_and_then, option_map_or}
use Rattle.std.proofs.Math.Path.{fun_ext}
use Rattle.rf_terms.specs.Kinds as table
use Rattle.rf_terms.specs.declared.kind.Kind.{Kind}
use Rattle.rf_terms.specs.declared.kind.Kind.TheVariants.{Spacing}
use Rattle.rf_profiles.specs.Channels.{channels}
use Rattle.rf_profiles.specs.Profile as profile
use Rattle.rf_profiles.specs.declared.profile.Profile.{Profile}
use Rattle.rf_zones.specs.Slices.{share_minute}
use Rattle.rf_log.specs.Case as case
use Rattle.rf_show.specs.Case.{CaseIsAsked, case_of, channels_of}
use Rattle.rf_show.specs.Query as query
use Rattle.rf_show.specs.Query.{all_meet, are_joined, bans_touch, channel_of, half_of, is_banned, is_together, may_stand, may_stand_at, may_take, meet, meet_at, profile_of, scans_touch}
use Rattle.rf_show.specs.Reasons.{same_at}
use Rattle.rf_show.specs.Show.{ShowData, is_profile}
use Rattle.rf_show.specs.declared.carrier.Carrier.{Carrier}
use Rattle.std.proofs.lemmas.Bool.{and_from, and_parts}
use Rattle.rf_tighter.specs.Locked.{locked_from, locked_to}
use Rattle.rf_tighter.specs.Tighter.{IsTighter}
use Rattle.rf_tighter.proofs.TighterLemmas.{instance-same, parts_of, size_is}
use Rattle.rf_base.proofs.ListLaws.{all_below}

-- ---- a carrier

abbrev relocked : Bool → Carrier → Carrier
relocked keep c = record c { locked = c.locked && keep }

abbrev relocked_one : Bool → Option Carrier → Option Carrier
relocked_one keep None = None
relocked_one keep (Some c) = Some (relocked keep c)

get-locked : (place : ℕ) (keep : ℕ → Bool) (cs : List Carrier) (c : ℕ) → slice_get (locked_from place keep cs) c ≡ relocked_one (keep (place + c)) (slice_get cs c)
get-locked place keep [] c = refl
get-locked place keep (x ∷ xs) zero = ap (λ n. Some (relocked (keep n) x)) (omega arith)
get-locked place keep (x ∷ xs) (suc c) = get-locked (place + 1) keep xs c ∙ ap (λ n. relocked_one (keep n) (slice_get xs c)) (omega arith)

get-here : (show : ShowData) (keep : ℕ → Bool) (c : ℕ) → slice_get (locked_to show keep).carriers c ≡ relocked_one (keep c) (slice_get show.carriers c)
get-here show keep c = get-locked 0 keep show.carriers c ∙ ap (λ n. relocked_one (keep n) (slice_get show.carriers c)) (omega arith)

pub length-locked : (place : ℕ) (keep : ℕ → Bool) (cs : List Carrier) → length (locked_from place keep cs) ≡ length cs
length-locked place keep [] = refl
length-locked place keep (x ∷ xs) = ap (λ n. suc n) (length-locked (place + 1) keep xs)

times-locked : (place : ℕ) (keep : ℕ → Bool) (cs : List Carrier) → map (λ (c : Carrier). c.times) (locked_from place keep cs) ≡ map (λ (c : Carrier). c.times) cs
times-locked place keep [] = refl
times-locked place keep (x ∷ xs) = ap (λ ts. x.times ∷ ts) (times-locked (place + 1) keep xs)

map_or-locked : {X : Type 0} (f : Carrier → X) (z : X) (keep : Bool) → ((c : Carrier) → f (relocked keep c) ≡ f c)
    → (o : Option Carrier) → option_map_or f (relocked_one keep o) z ≡ option_map_or f o z
map_or-locked f z keep same None = refl
map_or-locked f z keep same (Some c) = same c

-- what doesn't read the lock is the same
read-locked : {X : Type 0} (f : Carrier → X) (z : X) → ((keep : Bool) (c : Carrier) → f (relocked keep c) ≡ f c) → (show : ShowData) (keep : ℕ → Bool) (c : ℕ)
    → option_map_or f (slice_get (locked_to show keep).carriers c) z ≡ option_map_or f (slice_get show.carriers c) z
read-locked f z same show keep c =
    ap (λ o. option_map_or f o z) (get-here show keep c)
    ∙ map_or-locked f z (keep c) (same (keep c)) (slice_get show.carriers c)

found-locked : (ps : List Profile) (keep : Bool) (o : Option Carrier)
    → option_and_then (λ (c : Carrier). find (is_profile c.profile) ps) (relocked_one keep o) ≡ option_and_then (λ (c : Carrier). find (is_profile c.profile) ps) o
found-locked ps keep None = refl
found-locked ps keep (Some c) = refl

profile-locked : (show : ShowData) (keep : ℕ → Bool) (c : ℕ) → profile_of (locked_to show keep) c ≡ profile_of show c
profile-locked show keep c =
    ap (λ o. option_and_then (λ (x : Carrier). find (is_profile x.profile) show.profiles) o) (get-here show keep c)
    ∙ found-locked show.profiles (keep c) (slice_get show.carriers c)

-- ---- what is read of the profile

pub channels-locked : (show : ShowData) (keep : ℕ → Bool) (c : ℕ) → channels_of (locked_to show keep) c ≡ channels_of show c
channels-locked show keep c = ap (λ o. option_map_or (λ (p : Profile). channels p.channels) o []) (profile-locked show keep c)

half-locked : (show : ShowData) (keep : ℕ → Bool) (c : ℕ) → half_of (locked_to show keep) c ≡ half_of show c
half-locked show keep c = ap (λ o. option_map_or (λ (p : Profile). p.half) o 0) (profile-locked show keep c)

channel-locked : (show : ShowData) (keep : ℕ → Bool) (c k : ℕ) → channel_of (locked_to show keep) c k ≡ channel_of show c k
channel-locked show keep c k = ap (λ o. option_and_then (λ (p : Profile). slice_get (channels p.channels) k) o) (profile-locked show keep c)

asked-locked : (show : ShowData) (keep : ℕ → Bool) (kind : Kind) (c : ℕ) → query.asked (locked_to show keep) kind c ≡ query.asked show kind c
asked-locked show keep kind c = ap (λ o. option_map_or (λ (p : Profile). profile.margin_of p kind) o 0) (profile-locked show keep c)

margin-locked : (show : ShowData) (keep : ℕ → Bool) (kind : Kind) (roles : List ℕ) → query.margin_of (locked_to show keep) kind roles ≡ query.margin_of show kind roles
margin-locked show keep Spacing roles =
    ap (λ n. max n (query.asked (locked_to show keep) Spacing (slice_index roles 1))) (asked-locked show keep Spacing (slice_index roles 0))
    ∙ ap (λ n. max (query.asked show Spacing (slice_index roles 0)) n) (asked-locked show keep Spacing (slice_index roles 1))
margin-locked show keep kind roles = asked-locked show keep kind (slice_index roles (table.roles_of kind - 1))

-- ---- what is allowed

banned-locked : (show : ShowData) (keep : ℕ → Bool) (c f : ℕ) → is_banned (locked_to show keep) c f ≡ is_banned show c f
unfolding is_banned
banned-locked show keep c f =
    ap (λ half. option_map_or (λ (x : Carrier). bans_touch show.bans x.zone half f || scans_touch show.scans x.zone half f) (slice_get (locked_to show keep).carriers c) false)
    (half-locked show keep c)
    ∙ read-locked (λ (x : Carrier). bans_touch show.bans x.zone (half_of show c) f || scans_touch show.scans x.zone (half_of show c) f) false (λ k x. refl) show keep c

freer : (locked fewer more same : Bool) → (fewer ≡ true → more ≡ true) → (not (locked && more) || same) ≡ true → (not (locked && fewer) || same) ≡ true
freer false fewer more same h t = refl
freer true false more same h t = refl
freer true true true same h t = t
freer true true false same h t = let bad : false ≡ true = h refl in cc

stand-freer : (o : Option Carrier) (f : ℕ) (fewer more : Bool) → (fewer ≡ true → more ≡ true) → option_map_or (λ (c : Carrier). may_stand c f) (relocked_one more o) false ≡ true
    → option_map_or (λ (c : Carrier). may_stand c f) (relocked_one fewer o) false ≡ true
stand-freer None f fewer more h t = cc
stand-freer (Some c) f fewer more h t = freer c.locked fewer more (same_at c.at (Some f)) h t

stand-locked : (show : ShowData) (fewer more : ℕ → Bool) → ((c : ℕ) → fewer c ≡ true → more c ≡ true) → (c f : ℕ)
    → may_stand_at (locked_to show more) c f ≡ true → may_stand_at (locked_to show fewer) c f ≡ true
stand-locked show fewer more h c f t =
    ap (λ o. option_map_or (λ (x : Carrier). may_stand x f) o false) (get-here show fewer c)
    ∙ stand-freer (slice_get show.carriers c) f (fewer c) (more c) (h c)
    (sym (ap (λ o. option_map_or (λ (x : Carrier). may_stand x f) o false) (get-here show more c)) ∙ t)

take-locked : (show : ShowData) (fewer more : ℕ → Bool) → ((c : ℕ) → fewer c ≡ true → more c ≡ true) → (c f : ℕ)
    → may_take (locked_to show more) c f ≡ true → may_take (locked_to show fewer) c f ≡ true
take-locked show fewer more h c f t =
    let parts = and_parts (not (is_banned (locked_to show more) c f)) _ t in
    and_from _ _ (ap not (banned-locked show fewer c f ∙ sym (banned-locked show more c f)) ∙ parts.0) (stand-locked show fewer more h c f parts.1)

map_or-implies : (f g : ℕ → Bool) → ((x : ℕ) → f x ≡ true → g x ≡ true) → (o : Option ℕ) → option_map_or f o false ≡ true → option_map_or g o false ≡ true
map_or-implies f g h None t = cc
map_or-implies f g h (Some x) t = h x t

pub allowed-locked : (show : ShowData) (fewer more : ℕ → Bool) → ((c : ℕ) → fewer c ≡ true → more c ≡ true) → (c k : ℕ)
    → query.is_allowed (locked_to show more) c k ≡ true → query.is_allowed (locked_to show fewer) c k ≡ true
allowed-locked show fewer more h c k t =
    ap (λ o. option_map_or (λ f. may_take (locked_to show fewer) c f) o false) (channel-locked show fewer c k)
    ∙ map_or-implies (λ f. may_take (locked_to show more) c f) (λ f. may_take (locked_to show fewer) c f) (take-locked show fewer more h c) (channel_of show c k)
    (sym (ap (λ o. option_map_or (λ f. may_take (locked_to show more) c f) o false) (channel-locked show more c k)) ∙ t)

-- ---- together

meet-locked : (show : ShowData) (size : ℕ) (keep : ℕ → Bool) (a b : ℕ) → meet_at size show.zones (locked_to show keep).carriers a b ≡ meet_at size show.zones show.carriers a b
meet-locked show size keep a b =
    ap (λ (g : Carrier → Bool). option_map_or g (slice_get (locked_to show keep).carriers a) false)
    (fun_ext (λ c. read-locked (λ (d : Carrier). meet size show.zones c d) false (λ k x. refl) show keep b))
    ∙ read-locked (λ (c : Carrier). option_map_or (λ (d : Carrier). meet size show.zones c d) (slice_get show.carriers b) false) false (λ k x. refl) show keep a

together-locked : (show : ShowData) (keep : ℕ → Bool) (set : List ℕ) → is_together (locked_to show keep) set ≡ is_together show set
unfolding are_joined
together-locked show keep set =
    ap (λ (f : ℕ → ℕ → Bool). list_all (λ a. list_all (λ b. f a b) set) set && share_minute (map (λ (c : Carrier). c.times) (locked_to show keep).carriers) set)
    (fun_ext (λ a. fun_ext (λ b. meet-locked show (length set) keep a b)))
    ∙ ap (λ ts. all_meet (length set) show.zones show.carriers set && share_minute ts set) (times-locked 0 keep show.carriers)

pub tighter-locked : CaseIsAsked → (show : ShowData) (fewer more : ℕ → Bool) → ((c : ℕ) → fewer c ≡ true → more c ≡ true)
    → IsTighter (case_of (locked_to show fewer)) (case_of (locked_to show more))
tighter-locked agree show fewer more h =
    let low = agree (locked_to show fewer) in
    let high = agree (locked_to show more) in
    let lower : length (case_of (locked_to show fewer)).carriers ≡ length show.carriers = low.carriers ∙ length-locked 0 fewer show.carriers in
    let higher : length (case_of (locked_to show more)).carriers ≡ length show.carriers = high.carriers ∙ length-locked 0 more show.carriers in
    let size = lower ∙ sym higher in
    record {
      carriers = size;
      freqs = λ c l.
          low.freqs c (omega (arith, l, low.carriers, size)) ∙ channels-locked show fewer c ∙ sym (channels-locked show more c)
          ∙ sym (high.freqs c (omega (arith, l, high.carriers)));
      allowed = λ c k l t.
          low.allowed c k (omega (arith, l, low.carriers, size)) ∙ allowed-locked show fewer more h c k (sym (high.allowed c k (omega (arith, l, high.carriers))) ∙ t);
      instances = instance-same (case_of (locked_to show fewer)) (case_of (locked_to show more)) size
          (λ set below distinct some few.
          low.together set (subst (λ n. All (λ c. c < n) set) low.carriers below) distinct some few
          ∙ together-locked show fewer set ∙ sym (together-locked show more set)
          ∙ sym (high.together set (subst (λ n. All (λ c. c < n) set) (size ∙ high.carriers) below) distinct some few));
      margins = λ kind roles t.
          let p = parts_of (case_of (locked_to show more)) kind roles t in
          let n = size_is (case_of (locked_to show more)) kind roles p in
          let below = all_below (length (case_of (locked_to show more)).carriers) roles p.below in
          let same = low.margin kind roles n (subst (λ n. All (λ c. c < n) roles) (sym size ∙ low.carriers) below) in
          let then = high.margin kind roles n (subst (λ n. All (λ c. c < n) roles) high.carriers below) in
          omega (arith, same, then, margin-locked show fewer kind roles, margin-locked show more kind roles);
    }

pub all-locked : (place : ℕ) (keep : ℕ → Bool) (cs : List Carrier) → ((i : ℕ) (c : Carrier) → slice_get cs i ≡ Some c → c.locked ≡ true → keep (place + i) ≡ true)
    → locked_from place keep cs ≡ cs
all-locked place keep [] h = refl
all-locked place keep (c ∷ cs) h =
    ap (λ b. record c { locked = b } ∷ locked_from (place + 1) keep cs) (and_same c.locked (keep place) (λ locked. ap keep (omega arith) ∙ h 0 c refl locked))
    ∙ ap (λ xs. c ∷ xs) (all-locked (place + 1) keep cs (λ i d e locked. ap keep (omega arith) ∙ h (suc i) d e locked))
  where
    and_same : (b k : Bool) → (b ≡ true → k ≡ true) → (b && k) ≡ b
    and_same true k f = f refl
    and_same false k f = refl

pub locked-all : (show : ShowData) (keep : ℕ → Bool) → ((i : ℕ) (c : Carrier) → slice_get show.carriers i ≡ Some c → c.locked ≡ true → keep i ≡ true)
    → locked_to show keep ≡ show
locked-all show keep h =
    ap (λ cs. record show { carriers = cs }) (all-locked 0 keep show.carriers (λ i c e locked. ap keep (omega arith) ∙ h i c e locked))
