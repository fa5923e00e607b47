-- Lemmas on carriers that may be together, and on masks of them.
use Rattle.std.proofs.Common.{◌≡◌, ◌<◌, ℕ, zero, suc, Bool, true, false, ◌&&◌, List, [], ◌∷◌, length, refl, ap, ◌∙◌, arith, Option, Some, None, nat_le, nat_lt, slice_get, if◌then◌else◌}
use Rattle.std.specs.Option.{option_map_or}
use Rattle.std.proofs.lemmas.Bool.Decides.{nat_tests}
use Rattle.rf_zones.specs.Couplings.{joins}
use Rattle.rf_zones.specs.Masks.{has_bit}
use Rattle.rf_zones.specs.Zones as of_zones
use Rattle.rf_zones.specs.Zones.{ZonesData}
use Rattle.rf_zones.specs.declared.coupling.Coupling.TheVariants.{Coupled}
use Rattle.rf_show.specs.declared.carrier.Carrier.{Carrier}
use Rattle.rf_show.specs.Company.{IsMutual}
use Rattle.rf_show.specs.Query.{meet, meet_at}
use Rattle.rf_show.specs.Show.{zone_number}

pub none-passed : (mask : ℕ) (p : ℕ → Bool) (k : ℕ) → has_bit mask k ≡ false → has_bit mask k ≡ (nat_lt k 0 && p k)
none-passed mask p k h = let e : nat_lt k 0 ≡ false = grind (arith, nat_tests) in rw e h

-- ---- in either order

-- two carriers, if they are there
abbrev both-there : ℕ → ZonesData → Option Carrier → Option Carrier → Bool
both-there size zones a b = option_map_or (λ c. option_map_or (λ d. meet size zones c d) b false) a false

there-either : (size : ℕ) (zones : ZonesData) (a b : Option Carrier) → of_zones.IsMutual zones → both-there size zones a b ≡ both-there size zones b a
there-either size zones None None laws = refl
there-either size zones None (Some b) laws = refl
there-either size zones (Some a) None laws = refl
there-either size zones (Some a) (Some b) laws = ap (joins size) (laws.both (zone_number zones a.zone) (zone_number zones b.zone))

meet-either : (size : ℕ) (zones : ZonesData) (carriers : List Carrier) (a b : ℕ) → of_zones.IsMutual zones → meet_at size zones carriers a b ≡ meet_at size zones carriers b a
meet-either size zones carriers a b laws = there-either size zones (slice_get carriers a) (slice_get carriers b) laws

pub coupled-joins : (size : ℕ) → joins size Coupled ≡ true
coupled-joins size = either (nat_le size 2)
  where
    either : (b : Bool) → (if b then true else true) ≡ true
    either true = refl
    either false = refl

meet-own : (size : ℕ) (zones : ZonesData) (carriers : List Carrier) (c : ℕ) → of_zones.IsMutual zones → c < length carriers → meet_at size zones carriers c c ≡ true
meet-own size zones [] c laws h = absurd (omega (arith, h))
meet-own size zones (x ∷ carriers) zero laws h = ap (joins size) (laws.own (zone_number zones x.zone)) ∙ coupled-joins size
meet-own size zones (x ∷ carriers) (suc c) laws h = meet-own size zones carriers c laws (omega (arith, h))

pub meeting_mutual : (zones : ZonesData) (carriers : List Carrier) → of_zones.IsMutual zones → IsMutual zones carriers
meeting_mutual zones carriers laws = record {
  both = λ size a b. meet-either size zones carriers a b laws;
  own = λ size c low. meet-own size zones carriers c laws low;
}
