-- Lemmas on carriers that are together, by masks.
use Rattle.std.proofs.Common.{◌≡◌, ◌<◌, ◌≤◌, ℕ, Bool, true, false, ◌&&◌, List, [], ◌∷◌, ◌++◌, length, map, ap, sym, ◌∙◌, arith, All}
use Rattle.std.specs.List.{list_all, list_any}
use Rattle.std.proofs.lemmas.List.Folds.{list_all-append}
use Rattle.rf_zones.specs.Zones.{ZonesData}
use Rattle.rf_zones.specs.Masks.{has_bit, has_bits}
use Rattle.rf_zones.specs.Slices.{share_minute}
use Rattle.rf_zones.proofs.MaskLaws.{bits_push, bits-same}
use Rattle.rf_show.specs.declared.carrier.Carrier.{Carrier}
use Rattle.rf_show.specs.Query.{all_meet, are_joined, meet_at}
use Rattle.rf_show.specs.Company.{IsMutual}
use Rattle.rf_rules.specs.Companies.{IsCompany}
use Rattle.rf_rules.specs.declared.company.Company.{Company}
use mathlib.Core.Bool.{and-true}
use Rattle.rf_base.proofs.ListLaws.{all_both, all_same}

-- numbers below a limit are below a greater one
pub all-below : (t : List ℕ) (m n : ℕ) → m ≤ n → All (λ c. c < m) t → All (λ c. c < n) t
all-below t m n h below = λ k d low. omega (arith, h, below k d low)

-- ---- one carrier more

pub bits-yes : (t : List ℕ) (mask c : ℕ) → has_bits t mask ≡ true → has_bit mask c ≡ has_bits (t ++ c ∷ []) mask
bits-yes t mask c h = sym (bits_push t mask c ∙ ap (λ b. b && has_bit mask c) h)

pub bits-no : (t : List ℕ) (mask result c : ℕ) → has_bits t mask ≡ false → has_bit result c ≡ false → has_bit result c ≡ has_bits (t ++ c ∷ []) mask
bits-no t mask result c h none = none ∙ sym (bits_push t mask c ∙ ap (λ b. b && has_bit mask c) h)

twice : (a b : Bool) → ((a && b) && ((b && true) && true)) ≡ (a && b)
twice a b = grind arith

meet-push : (size : ℕ) (zones : ZonesData) (carriers : List Carrier) (t : List ℕ) (c : ℕ) → IsMutual zones carriers → c < length carriers
    → all_meet size zones carriers (t ++ c ∷ []) ≡ (all_meet size zones carriers t && list_all (λ a. meet_at size zones carriers a c) t)
meet-push size zones carriers t c ways h =
    let meets : ℕ → ℕ → Bool = λ a b. meet_at size zones carriers a b in
    let both : ℕ → Bool = λ a. list_all (meets a) t && meets a c in
    let each : (a : ℕ) → list_all (meets a) (t ++ c ∷ []) ≡ both a = λ a. list_all-append (meets a) t (c ∷ []) ∙ ap (λ b. list_all (meets a) t && b) (and-true (meets a c)) in
    let last : both c ≡ (list_all (λ a. meets a c) t && true) =
    ap (λ b. b && meets c c) (all_same (meets c) (λ a. meets a c) t (λ a. ways.both size c a)) ∙ ap (λ b. list_all (λ a. meets a c) t && b) (ways.own size c h) in
    all_same (λ a. list_all (meets a) (t ++ c ∷ [])) both (t ++ c ∷ []) each
    ∙ list_all-append both t (c ∷ [])
    ∙ ap (λ b. b && (both c && true)) (all_both (λ a. list_all (meets a) t) (λ a. meets a c) t)
    ∙ ap (λ b. (all_meet size zones carriers t && list_all (λ a. meets a c) t) && (b && true)) last
    ∙ twice (all_meet size zones carriers t) (list_all (λ a. meets a c) t)

pub mates-yes : (company : Company) (size : ℕ) (t : List ℕ) (c : ℕ) → IsCompany company → IsMutual company.show.now.zones company.show.now.carriers → c < length company.show.now.carriers
    → all_meet size company.show.now.zones company.show.now.carriers t ≡ true
    → (list_all (λ a. meet_at size company.show.now.zones company.show.now.carriers a c) t && list_any (has_bits (t ++ c ∷ [])) company.slices) ≡ are_joined company.show.now size
    (t ++ c ∷ [])
unfolding are_joined
mates-yes company size t c known ways h all =
    let show = company.show.now in
    let last = list_all (λ a. meet_at size show.zones show.carriers a c) t in
    let meet : all_meet size show.zones show.carriers (t ++ c ∷ []) ≡ last = meet-push size show.zones show.carriers t c ways h ∙ ap (λ b. b && last) all in
    ap (λ b. last && b) (known.common (t ++ c ∷ [])) ∙ ap (λ b. b && share_minute (map (λ d. d.times) show.carriers) (t ++ c ∷ [])) (sym meet)

pub mates-no : (company : Company) (size : ℕ) (t : List ℕ) (c : ℕ) → IsMutual company.show.now.zones company.show.now.carriers → c < length company.show.now.carriers
    → all_meet size company.show.now.zones company.show.now.carriers t ≡ false → are_joined company.show.now size (t ++ c ∷ []) ≡ false
unfolding are_joined
mates-no company size t c ways h none =
    let show = company.show.now in
    let last = list_all (λ a. meet_at size show.zones show.carriers a c) t in
    let meet : all_meet size show.zones show.carriers (t ++ c ∷ []) ≡ false = meet-push size show.zones show.carriers t c ways h ∙ ap (λ b. b && last) none in
    ap (λ b. b && share_minute (map (λ d. d.times) show.carriers) (t ++ c ∷ [])) meet

-- a set's bits in the mask of those that may be together with each of them
pub bits-meet : (size mask : ℕ) (zones : ZonesData) (carriers : List Carrier) (t : List ℕ) → IsMutual zones carriers
    → ((c : ℕ) → c < length carriers → has_bit mask c ≡ list_all (λ a. meet_at size zones carriers a c) t) → All (λ c. c < length carriers) t → has_bits t mask ≡ all_meet size
    zones carriers t
bits-meet size mask zones carriers t ways h below =
    let meets : ℕ → ℕ → Bool = λ a b. meet_at size zones carriers a b in
    bits-same (length carriers) mask (λ c. list_all (λ a. meets a c) t) t h below
    ∙ all_same (λ c. list_all (λ a. meets a c) t) (λ c. list_all (meets c) t) t (λ c. all_same (λ a. meets a c) (meets c) t (λ a. ways.both size a c))
