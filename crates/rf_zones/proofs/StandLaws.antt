use Rattle.std.proofs.Common.{◌≡◌, ◌≢◌, ℕ, true, ◌+◌, ◌<◌, ◌≤◌, ◌&&◌, cond, inl, inr, List, length, get_or, set, nat_eq, refl, ap, sym, ◌∙◌, arith}
use Rattle.std.proofs.lemmas.Bool.{cases_Bool, cases_lt, cases_eq, cases_order, and_parts, and_from, or_cases, or_left, or_right, le-ltb, eqb-true, eq-eqb, ne_eqb, both_ways}
use Rattle.std.proofs.lemmas.List.{get_or-set_other}
use Rattle.std.proofs.lemmas.Grind.{get_or-set_at}
use Rattle.rf_zones.specs.Zones.{ZonesData, coupling_of, pairs, pair_place, same_pair}
use Rattle.rf_zones.specs.declared.coupling.Coupling.{Coupling}
use Rattle.rf_zones.specs.declared.coupling.Coupling.TheVariants.{Apart, Coupled}
use Rattle.rf_zones.proofs.PairLaws.{place_within, place_low}

place_high : (a b : ℕ) → b ≤ a → pair_place a b ≡ pairs a + b
place_high a b high = rw (le-ltb a b high) refl

-- a pair is the same in either order
place_either : (a b : ℕ) → pair_place a b ≡ pair_place b a
place_either a b = elim (cases_order a b) [
  | inl same ↦ rw same refl
  | inr apart ↦ elim apart [
    | inl below ↦ place_low a b below ∙ sym (place_high b a (omega arith))
    | inr above ↦ place_high a b (omega arith) ∙ sym (place_low b a above)
  ]
]

-- pairs at one place are the same
one_place : (a b x y : ℕ) → a < b → x < y → pairs b + a ≡ pairs y + x → (a ≡ x) × (b ≡ y)
one_place a b x y low low' same = elim (cases_order b y) [
  | inl e ↦ let high : pairs b ≡ pairs y = ap pairs e in (omega arith, e)
  | inr apart ↦ elim apart [
    | inl below ↦ absurd (omega (arith, place_within a b y low below))
    | inr above ↦ absurd (omega (arith, place_within x y b low' above))
  ]
]

straight : (a b x y : ℕ) → a ≡ x → b ≡ y → same_pair a b x y ≡ true
straight a b x y e f = or_left (nat_eq a x && nat_eq b y) (nat_eq a y && nat_eq b x) (and_from (nat_eq a x) (nat_eq b y) (eq-eqb a x e) (eq-eqb b y f))

crossed : (a b x y : ℕ) → a ≡ y → b ≡ x → same_pair a b x y ≡ true
crossed a b x y e f = or_right (nat_eq a x && nat_eq b y) (nat_eq a y && nat_eq b x) (and_from (nat_eq a y) (nat_eq b x) (eq-eqb a y e) (eq-eqb b x f))

same_place : (a b x y : ℕ) → a ≢ b → x ≢ y → pair_place a b ≡ pair_place x y → same_pair a b x y ≡ true
same_place a b x y apart apart' same = elim (cases_lt a b) [
  | inl low ↦ elim (cases_lt x y) [
    | inl low' ↦
        let e = one_place a b x y low low' (sym (place_low a b low) ∙ same ∙ place_low x y low') in
        straight a b x y e.0 e.1
    | inr high' ↦
        let e = one_place a b y x low (omega (arith, apart')) (sym (place_low a b low) ∙ same ∙ place_high x y high') in
        crossed a b x y e.0 e.1
  ]
  | inr high ↦ elim (cases_lt x y) [
    | inl low' ↦
        let e = one_place b a x y (omega (arith, apart)) low' (sym (place_high a b high) ∙ same ∙ place_low x y low') in
        crossed a b x y e.1 e.0
    | inr high' ↦
        let e = one_place b a y x (omega (arith, apart)) (omega (arith, apart')) (sym (place_high a b high) ∙ same ∙ place_high x y high') in
        straight a b x y e.1 e.0
  ]
]

place_same : (a b x y : ℕ) → same_pair a b x y ≡ true → pair_place a b ≡ pair_place x y
place_same a b x y same = elim (or_cases (nat_eq a x && nat_eq b y) (nat_eq a y && nat_eq b x) same) [
  | inl ahead ↦
      let e = and_parts (nat_eq a x) (nat_eq b y) ahead in
      ap (λ n. pair_place n b) (eqb-true a x e.0) ∙ ap (pair_place x) (eqb-true b y e.1)
  | inr over ↦
      let e = and_parts (nat_eq a y) (nat_eq b x) over in
      ap (λ n. pair_place n b) (eqb-true a y e.0) ∙ ap (pair_place y) (eqb-true b x e.1) ∙ place_either y x
]

-- the coupling at a place after another is set
set_pair : (couplings : List Coupling) (a b x y : ℕ) (coupling : Coupling) → a ≢ b → x ≢ y → pair_place a b < length couplings →
    get_or (set couplings (pair_place a b) coupling) (pair_place x y) Apart ≡ cond (same_pair a b x y) coupling (get_or couplings (pair_place x y) Apart)
set_pair couplings a b x y coupling apart apart' within = elim (cases_Bool (same_pair a b x y)) [
  | inl same ↦ rw same (get_or-set_at couplings (pair_place a b) (pair_place x y) coupling Apart (sym (place_same a b x y same)) within)
  | inr other ↦
      rw other (get_or-set_other couplings (pair_place a b) (pair_place x y) coupling Apart (λ e. both_ways (same_pair a b x y) other (same_place a b x y apart apart' (sym e))))
]

pub coupling_own : (zones : ZonesData) (a : ℕ) → coupling_of zones a a ≡ Coupled
coupling_own zones a = rw (eq-eqb a a refl) refl

-- how two different zones stand to each other
coupling_apart : (zones : ZonesData) (a b : ℕ) → a ≢ b → coupling_of zones a b ≡ get_or zones.couplings (pair_place a b) Apart
coupling_apart zones a b apart = rw (ne_eqb a b apart) refl

pub coupling_either : (zones : ZonesData) (a b : ℕ) → coupling_of zones a b ≡ coupling_of zones b a
coupling_either zones a b = elim (cases_eq a b) [
  | inl same ↦ rw same refl
  | inr apart ↦
      coupling_apart zones a b apart ∙ ap (λ k. get_or zones.couplings k Apart) (place_either a b) ∙ sym (coupling_apart zones b a (λ same. apart (sym same)))
]

-- how two zones stand to each other after a change
pub stand_set : (names : List (List ℕ)) (couplings : List Coupling) (a b x y : ℕ) (coupling : Coupling) → a ≢ b → pair_place a b < length couplings →
    coupling_of (record { names = names; couplings = set couplings (pair_place a b) coupling }) x y
    ≡ cond (nat_eq x y) Coupled (cond (same_pair a b x y) coupling (coupling_of (record { names = names; couplings = couplings }) x y))
stand_set names couplings a b x y coupling apart within = elim (cases_eq x y) [
  | inl same ↦ rw (eq-eqb x y same) refl
  | inr other ↦ rw (ne_eqb x y other) (set_pair couplings a b x y coupling apart other within)
]
