-- A show that differs from another only in where its carriers stand.
use Rattle.std.proofs.Common.{◌≡◌, ◌∙◌, ℕ, zero, suc, Bool, false, ◌&&◌, ◌||◌, List, [], ◌∷◌, find, map, max, refl, ap, Some, ◌-◌, ◌==◌, nat_lt, slice_get, slice_index}
use Rattle.std.specs.declared.option.Option.{Option}
use Rattle.std.specs.List.{list_all, list_any}
use Rattle.std.specs.Option.{option_and_then, option_map_or}
use Rattle.std.proofs.Math.Path.{fun_ext}
use Rattle.rf_terms.specs.Kinds.{roles_of}
use Rattle.rf_terms.specs.declared.kind.Kind.{Kind}
use Rattle.rf_terms.specs.declared.kind.Kind.TheVariants.{Spacing}
use Rattle.rf_profiles.specs.Channels.{channels}
use Rattle.rf_profiles.specs.Profile as profile
use Rattle.rf_profiles.specs.declared.profile.Profile.{Profile}
use Rattle.rf_zones.specs.Slices.{share_minute}
use Rattle.rf_show.proofs.PlaceLaws.{map-placed}
use Rattle.rf_show.specs.After.{placed}
use Rattle.rf_show.specs.Query.{are_joined, asked, bans_touch, half_of, is_banned, is_channel, margin_of, meet, meet_at, profile_of, scans_touch}
use Rattle.rf_show.specs.Show.{ShowData, is_profile}
use Rattle.rf_show.specs.declared.carrier.Carrier.{Carrier}
use Rattle.rf_rules.specs.Instances.{are_assigned, distance_of, is_broken, is_candidate, is_distinct, is_in_order, is_instance}

-- What the analysis asks of the one show is what it asks of the other.
pub record Alike (old new : ShowData) : Type 0 where
  pub channel : (c f : ℕ) → is_channel new c f ≡ is_channel old c f
  pub banned : (c f : ℕ) → is_banned new c f ≡ is_banned old c f
  pub margin : (kind : Kind) (roles : List ℕ) → margin_of new kind roles ≡ margin_of old kind roles
  pub joined : (size : ℕ) (roles : List ℕ) → are_joined new size roles ≡ are_joined old size roles

pub alike_itself : (show : ShowData) → Alike show show
alike_itself show = record { channel = λ c f. refl; banned = λ c f. refl; margin = λ kind roles. refl; joined = λ size roles. refl }

-- the same instances are broken where the carriers stand at these frequencies
pub broken_alike : (old new : ShowData) → Alike old new → (ats : List (Option ℕ)) (kind : Kind) (roles : List ℕ) → is_broken new ats kind roles ≡ is_broken old ats kind roles
unfolding is_broken is_candidate is_instance
broken_alike old new alike ats kind roles =
    ap (λ m. nat_lt (distance_of ats kind roles) m && (are_assigned ats roles && (is_distinct roles && is_in_order kind roles && are_joined new (roles_of kind) roles))) (alike.margin kind roles)
    ∙ ap (λ b. nat_lt (distance_of ats kind roles) (margin_of old kind roles) && (are_assigned ats roles && (is_distinct roles && is_in_order kind roles && b))) (alike.joined (roles_of kind) roles)

-- ---- carriers that are placed

-- what doesn't look at where a carrier stands
placed_at : {Y : Type 0} (of : Option Carrier → Y) → ((c : Carrier) (at : Option ℕ) → of (Some (record c { at = at })) ≡ of (Some c))
    → (cs : List Carrier) (ats : List (Option ℕ)) (i : ℕ) → of (slice_get (placed cs ats) i) ≡ of (slice_get cs i)
placed_at of same [] ats i = refl
placed_at of same (c ∷ cs) [] i = refl
placed_at of same (c ∷ cs) (at ∷ ats) zero = same c at
placed_at of same (c ∷ cs) (at ∷ ats) (suc i) = placed_at of same cs ats i

module _ (show : ShowData) (ats : List (Option ℕ)) where
  abbrev now : ShowData
  now = record show { carriers = placed show.carriers ats }

  profile_placed : (c : ℕ) → profile_of now c ≡ profile_of show c
  profile_placed c = placed_at (λ o. option_and_then (λ (x : Carrier). find (is_profile x.profile) show.profiles) o) (λ x at. refl) show.carriers ats c

  asked_placed : (kind : Kind) (c : ℕ) → asked now kind c ≡ asked show kind c
  asked_placed kind c = ap (λ o. option_map_or (λ p. profile.margin_of p kind) o 0) (profile_placed c)

  margin_placed : (kind : Kind) (roles : List ℕ) → margin_of now kind roles ≡ margin_of show kind roles
  margin_placed Spacing roles =
      ap (λ a. max a (asked now Spacing (slice_index roles 1))) (asked_placed Spacing (slice_index roles 0))
      ∙ ap (λ a. max (asked show Spacing (slice_index roles 0)) a) (asked_placed Spacing (slice_index roles 1))
  margin_placed kind roles = asked_placed kind (slice_index roles (roles_of kind - 1))

  half_placed : (c : ℕ) → half_of now c ≡ half_of show c
  half_placed c = ap (λ o. option_map_or (λ (p : Profile). p.half) o 0) (profile_placed c)

  -- a ban or a scan touches a frequency for a carrier with this half width
  abbrev touched : ℕ → ℕ → Option Carrier → Bool
  touched f half o = option_map_or (λ (x : Carrier). bans_touch show.bans x.zone half f || scans_touch show.scans x.zone half f) o false

  banned_placed : (c f : ℕ) → is_banned now c f ≡ is_banned show c f
  unfolding is_banned
  banned_placed c f =
      ap (λ half. touched f half (slice_get (placed show.carriers ats) c)) (half_placed c)
      ∙ placed_at (touched f (half_of show c)) (λ x at. refl) show.carriers ats c

  meet_placed : (size a b : ℕ) → meet_at size show.zones (placed show.carriers ats) a b ≡ meet_at size show.zones show.carriers a b
  meet_placed size a b =
      placed_at (λ o. option_map_or (λ (c : Carrier). option_map_or (λ d. meet size show.zones c d) (slice_get (placed show.carriers ats) b) false) o false) (λ x at. refl) show.carriers ats a
      ∙ ap (λ (f : Carrier → Bool). option_map_or f (slice_get show.carriers a) false)
      (fun_ext (λ (c : Carrier). placed_at (λ o. option_map_or (λ (d : Carrier). meet size show.zones c d) o false) (λ x at. refl) show.carriers ats b))

  joined_placed : (size : ℕ) (roles : List ℕ) → are_joined now size roles ≡ are_joined show size roles
  unfolding are_joined
  joined_placed size roles =
      ap (λ (m : ℕ → ℕ → Bool). list_all (λ a. list_all (λ b. m a b) roles) roles && share_minute (map (λ (c : Carrier). c.times) (placed show.carriers ats)) roles)
      (fun_ext (λ a. fun_ext (λ b. meet_placed size a b)))
      ∙ ap (λ times. list_all (λ a. list_all (λ b. meet_at size show.zones show.carriers a b) roles) roles && share_minute times roles)
      (map-placed (λ (c : Carrier). c.times) show.carriers ats (λ c at. refl))

  pub alike_placed : Alike show (record show { carriers = placed show.carriers ats })
  alike_placed = record {
    channel = λ c f. ap (λ o. option_map_or (λ (p : Profile). list_any (λ g. f == g) (channels p.channels)) o false) (profile_placed c);
    banned = banned_placed;
    margin = margin_placed;
    joined = joined_placed;
  }
