-- The zones of a show, made by their lines.
use Rattle.std.proofs.Common.{◌≡◌, ◌<◌, ◌≤◌, ◌+◌, ◌-◌, ◌++◌, ◌∙◌, ℕ, zero, suc, List, [], ◌∷◌, true, false, length, map, filter, replicate, get_or, set, length-set, add-one, arith, refl}
use Rattle.std.proofs.Common.{sym, Some, Ok, ◌⊎◌, inl, inr, nat_eq, position, lt-ltb, ext_get_or, get_or-set_other}
use Rattle.std.specs.List.{IsDistinct, list_any, flat_map, range_with_len}
use Rattle.std.specs.Cmp.Lexicographic.{nat_list_eq_equiv}
use Rattle.std.proofs.lemmas.Bool.{cases_Bool, cases_lt, cases_eq, false≢true}
use Rattle.std.proofs.lemmas.Bool.Decides.{nat_tests}
use Rattle.std.proofs.lemmas.Grind.{get_or-set_at}
use Rattle.std.proofs.lemmas.List.{length_push, get_or-replicate, length-replicate, replicate-append-replicate}
use Rattle.std.proofs.lemmas.List.Sums.{position_or_len_is}
use Rattle.std.proofs.lemmas.Map.Keys.{apart_from_distinct}
use Rattle.rf_base.specs.Name.{same_name}
use Rattle.rf_zones.specs.Zones.{ZonesData, pairs, pair_place, with_zone}
use Rattle.rf_zones.specs.declared.coupling.Coupling.{Coupling}
use Rattle.rf_zones.specs.declared.coupling.Coupling.TheVariants.{Apart, Coupled, Far}
use Rattle.rf_show.specs.After.{after}
use Rattle.rf_show.specs.Limits.{most_zones}
use Rattle.rf_show.specs.Show.{ShowData}
use Rattle.rf_text.specs.declared.command.Command.{Command}
use Rattle.rf_text.specs.ShowLaw.{HotPointsOf}
use Rattle.rf_text.specs.Shows.{couple_lines, coupling_edit, far_lines, pair_line, pairs_with, same_coupling, stand, zone_line}
use Rattle.rf_text.proofs.MadeLemmas.{all_at, full_not, made, made_all, map_made}
use Rattle.rf_base.proofs.ListLaws.{position_any}
use Rattle.rf_zones.proofs.PairLaws.{pairs-rise, place_low}

-- ---- names

pub fresh : (done : List (List ℕ)) (name : List ℕ) (rest : List (List ℕ)) → IsDistinct same_name (done ++ name ∷ rest) → list_any (same_name name) done ≡ false
unfolding IsDistinct
fresh [] name rest h = refl
fresh (x ∷ done) name rest h =
    let apart : same_name name x ≡ false = nat_list_eq_equiv.symm name x ∙ all_at _ done name rest h.0 in
    rw (apart, fresh done name rest h.1) refl

-- ---- zones

-- these zones, apart from each other
abbrev pub uncoupled : List (List ℕ) → ZonesData
uncoupled names = record { names = names; couplings = replicate (pairs (length names)) Apart }

uncoupled_more : (done : List (List ℕ)) (name : List ℕ) → with_zone (uncoupled done) name ≡ uncoupled (done ++ name ∷ [])
unfolding pairs
uncoupled_more done name =
    let long : length (done ++ name ∷ []) ≡ suc (length done) = length_push done name ∙ add-one (length done) in
    rw (replicate-append-replicate, long) refl

pub zones_made : (hot : HotPointsOf) (s : ShowData) (done rest : List (List ℕ)) → IsDistinct same_name (done ++ rest) → length (done ++ rest) ≤ most_zones
    → made hot (record s { zones = uncoupled done }) (map zone_line rest) ≡ Some (record s { zones = uncoupled (done ++ rest) })
zones_made hot s done rest distinct room =
    map_made hot (λ all. record s { zones = uncoupled all }) zone_line (λ all. IsDistinct same_name all × (length all ≤ most_zones))
    (λ names name more h. rw (position_any (same_name name) names ∙ fresh names name more h.0, full_not names name more most_zones h.1, uncoupled_more names name) refl)
    done rest (distinct, room)

-- ---- couplings

pub position_of : (names : List (List ℕ)) (i : ℕ) (d : List ℕ) → IsDistinct same_name names → i < length names → position (same_name (get_or names i d)) names ≡ Some i
position_of names i d distinct inside =
    let at = position_or_len_is (same_name (get_or names i d)) names i d (omega arith)
    (λ k low. nat_list_eq_equiv.symm (get_or names i d) (get_or names k d) ∙ apart_from_distinct same_name names k i d distinct low inside)
    (λ _. nat_list_eq_equiv.refl (get_or names i d)) in
    rw (at, lt-ltb i (length names) inside) refl

-- these zones, coupled so
abbrev pub coupled_as : List (List ℕ) → List Coupling → ZonesData
coupled_as names couplings = record { names = names; couplings = couplings }

apart : (a b : ℕ) → a < b → nat_eq a b ≡ false
apart a b h = grind (arith, nat_tests)

edit_step : (c : Coupling) (s : ShowData) (a b : List ℕ) (x y : ℕ) → position (same_name a) s.zones.names ≡ Some x → position (same_name b) s.zones.names ≡ Some y → x < y
    → after s (coupling_edit c a b) ≡ Ok (record s { zones = record s.zones { couplings = set s.zones.couplings (pair_place x y) c } })
edit_step Apart s a b x y first second low = rw (first, second, apart x y low) refl
edit_step Coupled s a b x y first second low = rw (first, second, apart x y low) refl
edit_step Far s a b x y first second low = rw (first, second, apart x y low) refl

same_is : (c d : Coupling) → same_coupling c d ≡ true → c ≡ d
same_is Apart Apart h = refl
same_is Coupled Coupled h = refl
same_is Far Far h = refl
same_is _ _ h = cc

same_own : (c : Coupling) → same_coupling c c ≡ true
same_own Apart = refl
same_own Coupled = refl
same_own Far = refl

-- each pair stands as it is to stand, or as it stood
abbrev Stays : List Coupling → List Coupling → List Coupling → Type 0
Stays target old new = (k : ℕ) → (get_or new k Apart ≡ get_or target k Apart) ⊎ (get_or new k Apart ≡ get_or old k Apart)

stays_then : (target old next new : List Coupling) → Stays target old next → Stays target next new → Stays target old new
stays_then target old next new first second k =
    elim (second k) [ inl is ↦ inl is | inr same ↦ elim (first k) [ inl is ↦ inl (same ∙ is) | inr was ↦ inr (same ∙ was) ] ]

-- what stands as it is to stand, stays
kept : (target old new : List Coupling) (k : ℕ) (c : Coupling) → Stays target old new → get_or target k Apart ≡ c → get_or old k Apart ≡ c → get_or new k Apart ≡ c
kept target old new k c stays is was = elim (stays k) [ inl same ↦ same ∙ is | inr same ↦ same ∙ was ]

stays_set : (target old : List Coupling) (k : ℕ) (c : Coupling) → k < length old → get_or target k Apart ≡ c → Stays target old (set old k c)
stays_set target old k c inside is j = elim (cases_eq j k) [
  | inl same ↦ inl (rw same (get_or-set_at old k k c Apart refl inside ∙ sym is))
  | inr other ↦ inr (get_or-set_other old k j c Apart other)
]

-- The couplings that the lines of one coupling make on the way to all: those of some pairs.
record Settles (hot : HotPointsOf) (s : ShowData) (names : List (List ℕ)) (c : Coupling) (target old : List Coupling) (lines : List Command) (Pair : ℕ → ℕ → Type 0) : Type 0 where
  new : List Coupling
  is : made hot (record s { zones = coupled_as names old }) lines ≡ Some (record s { zones = coupled_as names new })
  long : length new ≡ length old
  stays : Stays target old new
  there : (a b : ℕ) → Pair a b → get_or target (pair_place a b) Apart ≡ c → get_or new (pair_place a b) Apart ≡ c

place_within : (a b n : ℕ) → a < b → b < n → pair_place a b < pairs n
unfolding pairs
place_within a b n low high = rw (place_low a b low) (omega (arith, pairs-rise (suc b) n high))

pair_of : (n k : ℕ) → k < pairs n → (a : ℕ) × (b : ℕ) × (a < b) × (b < n) × (pair_place a b ≡ k)
unfolding pairs
pair_of zero k h = absurd (omega arith)
pair_of (suc n) k h = elim (cases_lt k (pairs n)) [
  | inl low ↦ let (a, b, p, q, r) = pair_of n k low in (a, b, p, omega (arith, q), r)
  | inr high ↦ let less : k - pairs n < n = omega (arith, h) in (k - pairs n, n, less, omega arith, place_low (k - pairs n) n less ∙ omega (arith, high))
]

module _ (hot : HotPointsOf) (s : ShowData) (names : List (List ℕ)) (target : List Coupling) (distinct : IsDistinct same_name names) (paired : length target ≡ pairs (length names)) where
  abbrev zones : ZonesData
  zones = coupled_as names target

  row : (c : Coupling) (a m b0 : ℕ) (old : List Coupling) → length old ≡ length target → a < b0 → b0 + m ≤ length names
      → Settles hot s names c target old (map (pair_line c zones a) (filter (stand c zones a) (range_with_len b0 m))) (λ x y. (x ≡ a) × (b0 ≤ y) × (y < b0 + m))
  row c a zero b0 old h low high = record { new = old; is = refl; long = refl; stays = λ k. inr refl; there = λ x y p on. absurd (omega (arith, p.1, p.2)) }
  row c a (suc m) b0 old h low high =
      let differ = apart a b0 low in
      elim (cases_Bool (same_coupling (get_or target (pair_place a b0) Apart) c)) [
        | inl on ↦
            let at = same_is (get_or target (pair_place a b0) Apart) c on in
            let inside : pair_place a b0 < length old = omega (arith, place_within a b0 (length names) low (omega arith), h, paired) in
            let first = position_of names a [] distinct (omega arith) in
            let second = position_of names b0 [] distinct (omega arith) in
            let step = edit_step c (record s { zones = coupled_as names old }) _ _ a b0 first second low in
            let long = length-set old (pair_place a b0) c in
            let rest = row c a m (b0 + 1) (set old (pair_place a b0) c) (long ∙ h) (omega arith) (omega arith) in
            record {
              new = rest.new;
              is = rw (differ, on) (rw step rest.is);
              long = rest.long ∙ long;
              stays = stays_then target old _ rest.new (stays_set target old (pair_place a b0) c inside at) rest.stays;
              there = λ x y p is. elim (cases_eq y b0) [
                | inl same ↦ rw (p.0, same) (kept target _ rest.new (pair_place a b0) c rest.stays at (get_or-set_at old (pair_place a b0) (pair_place a b0) c Apart refl inside))
                | inr other ↦ rest.there x y (p.0, omega (arith, p.1, other), omega (arith, p.2)) is
              ];
            }
        | inr off ↦
            let rest = row c a m (b0 + 1) old h (omega arith) (omega arith) in
            record {
              new = rest.new;
              is = rw (differ, off) rest.is;
              long = rest.long;
              stays = rest.stays;
              there = λ x y p is. elim (cases_eq y b0) [
                | inl same ↦
                    let here : get_or target (pair_place a b0) Apart ≡ c = rw (p.0, same) at is in
                    let on : same_coupling (get_or target (pair_place a b0) Apart) c ≡ true = rw here (same_own c) in
                    absurd (false≢true (sym off ∙ on))
                | inr other ↦ rest.there x y (p.0, omega (arith, p.1, other), omega (arith, p.2)) is
              ];
            }
      ]

  rows : (c : Coupling) (m a0 : ℕ) (old : List Coupling) → length old ≡ length target → a0 + m ≤ length names
      → Settles hot s names c target old (flat_map (pairs_with c zones) (range_with_len a0 m)) (λ x y. (a0 ≤ x) × (x < a0 + m) × (x < y) × (y < length names))
  rows c zero a0 old h high = record { new = old; is = refl; long = refl; stays = λ k. inr refl; there = λ x y p on. absurd (omega (arith, p.0, p.1)) }
  rows c (suc m) a0 old h high =
      let first = row c a0 (length names - (a0 + 1)) (a0 + 1) old h (omega arith) (omega arith) in
      let rest = rows c m (a0 + 1) first.new (first.long ∙ h) (omega arith) in
      record {
        new = rest.new;
        is = made_all hot _ _ _ (pairs_with c zones a0) _ first.is rest.is;
        long = rest.long ∙ first.long;
        stays = stays_then target old first.new rest.new first.stays rest.stays;
        there = λ x y p is. elim (cases_eq x a0) [
          | inl same ↦ kept target first.new rest.new (pair_place x y) c rest.stays is (first.there x y (same, omega (arith, p.2, same), omega (arith, p.3)) is)
          | inr other ↦ rest.there x y (omega (arith, p.0, other), omega (arith, p.1), p.2, p.3) is
        ];
      }

  -- what is to be neither coupled nor coupled far is apart
  neither : (is near far : Coupling) → near ≡ Apart → far ≡ Apart → (is ≡ Coupled → near ≡ Coupled) → (is ≡ Far → far ≡ Far) → far ≡ is
  neither Apart near far n f g h = f
  neither Coupled near far n f g h = let on = g refl in cc
  neither Far near far n f g h = h refl

  settled : (k : ℕ) (old near far : List Coupling) → get_or old k Apart ≡ Apart → Stays target old near → Stays target near far
      → (get_or target k Apart ≡ Coupled → get_or near k Apart ≡ Coupled) → (get_or target k Apart ≡ Far → get_or far k Apart ≡ Far)
      → get_or far k Apart ≡ get_or target k Apart
  settled k old near far none first second g h = elim (second k) [
    | inl is ↦ is
    | inr same ↦ elim (first k) [
      | inl is ↦ same ∙ is
      | inr was ↦ neither (get_or target k Apart) (get_or near k Apart) (get_or far k Apart) (was ∙ none) (same ∙ (was ∙ none)) g h
    ]
  ]

  -- the lines of the coupled zones, and of those that are coupled far, make all couplings
  pub couplings_made : (t : ShowData) (more : List Command) → made hot (record s { zones = zones }) more ≡ Some t
      → made hot (record s { zones = uncoupled names }) (couple_lines zones ++ (far_lines zones ++ more)) ≡ Some t
  couplings_made t more then =
      let start = replicate (pairs (length names)) Apart in
      let long : length start ≡ length target = length-replicate (pairs (length names)) Apart ∙ sym paired in
      let near = rows Coupled (length names) 0 start long (omega arith) in
      let far = rows Far (length names) 0 near.new (near.long ∙ long) (omega arith) in
      let same : length far.new ≡ length target = far.long ∙ (near.long ∙ long) in
      let whole : far.new ≡ target = ext_get_or Apart far.new target same (λ k inside.
      let (a, b, p, q, r) = pair_of (length names) k (omega (arith, same, paired)) in
      settled k start near.new far.new (get_or-replicate (pairs (length names)) k Apart Apart (omega (arith, same, paired))) near.stays far.stays
      (λ is. rw r at (near.there a b (omega arith, omega (arith, p, q), p, q) (rw r is)))
      (λ is. rw r at (far.there a b (omega arith, omega (arith, p, q), p, q) (rw r is)))) in
      made_all hot _ _ _ (couple_lines zones) _ near.is (made_all hot _ _ _ (far_lines zones) more (rw whole at far.is) then)
