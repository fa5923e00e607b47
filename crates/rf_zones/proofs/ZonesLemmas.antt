use Rattle.std.proofs.Common.{◌≡◌, ◌≢◌, ℕ, Bool, true, false, ◌+◌, ◌-◌, ◌<◌, ◌≤◌, List, [], ◌∷◌, ◌++◌, length, get_or, set, take, drop, replicate, nat_lt, cond, slice_get, Some, None, refl}
use Rattle.std.proofs.Common.{ap, sym, ◌∙◌, arith, length-append, ne_eqb, length-take-le, set-set, length-drop, take-append-drop, drop_at}
use Rattle.std.specs.List.{list_all, list_any, IsDistinct, position, position_or_len}
use Rattle.std.specs.Cmp.Lexicographic.{nat_list_eq_equiv}
use Rattle.std.proofs.lemmas.List.{set-get_or, length-replicate, get_or_append_left, get_or_at, length_push}
use Rattle.std.proofs.lemmas.List.Folds.{list_any_none}
use Rattle.std.proofs.lemmas.Map.Keys.{IsDistinct-push, apart_from_distinct, IsDistinct-from_apart, IsDistinct-cons}
use Rattle.rf_base.specs.Name.{same_name}
use Rattle.rf_zones.specs.ZoneNames.{main_zone}
use Rattle.rf_zones.specs.Couplings.{is_apart}
use Rattle.rf_zones.specs.Zones.{ZonesData, IsZones, coupling_of, first_zones, pairs, zone_of, with_zone, is_last_free, with_coupling, pair_place}
use Rattle.rf_zones.specs.declared.coupling.Coupling.{Coupling}
use Rattle.rf_zones.specs.declared.coupling.Coupling.TheVariants.{Apart}
use Rattle.rf_zones.specs.declared.zone_names.TheConstants.{MAX_ZONES}
use Rattle.rf_zones.proofs.FilledLemmas.{all_apart, apart_all}
use Rattle.rf_zones.proofs.PairLaws.{pairs-next}
use Rattle.rf_base.proofs.ListLaws.{place_any, get_left}

pub get_front : {X : Type 0} (xs ys : List X) (x : X) → 0 < length xs → slice_get (xs ++ ys) 0 ≡ Some x → slice_get xs 0 ≡ Some x
get_front [] ys x some h = absurd (omega arith)
get_front (y ∷ xs) ys x some h = h

none_where_false : {X : Type 0} (b : Bool) (x : X) → cond b (Some x) None ≡ None → b ≡ false
none_where_false true x h = cc
none_where_false false x h = refl

-- a name that isn't found is none of the names
pub no_zone : (zones : ZonesData) (name : List ℕ) → zone_of zones name ≡ None → list_any (same_name name) zones.names ≡ false
no_zone zones name h = sym (place_any (same_name name) zones.names)
    ∙ none_where_false (nat_lt (position_or_len (same_name name) zones.names) (length zones.names)) (position_or_len (same_name name) zones.names) h

pub IsZones-with_zone : (zones : ZonesData) (name : List ℕ) → IsZones zones → zone_of zones name ≡ None → length zones.names < MAX_ZONES → IsZones (with_zone zones name)
IsZones-with_zone zones name ok fresh room = record {
  first = get_left zones.names (name ∷ []) 0 main_zone ok.first;
  distinct = IsDistinct-push nat_list_eq_equiv zones.names name ok.distinct (no_zone zones name fresh);
  few = omega (arith, length_push zones.names name);
  paired =
      length-append zones.couplings (replicate (length zones.names) Apart)
      ∙ ap (λ n. length zones.couplings + n) (length-replicate (length zones.names) Apart)
      ∙ ap (λ n. n + length zones.names) ok.paired
      ∙ sym (pairs-next (length zones.names))
      ∙ ap pairs (sym (length_push zones.names name));
}

distinct-front : (names : List (List ℕ)) (name : List ℕ) → IsDistinct same_name (names ++ name ∷ []) → IsDistinct same_name names
distinct-front names name h = IsDistinct-from_apart same_name names (λ i j d low high.
    let whole : same_name (get_or (names ++ name ∷ []) i d) (get_or (names ++ name ∷ []) j d) ≡ false =
    apart_from_distinct same_name (names ++ name ∷ []) i j d h low (omega (arith, length_push names name)) in
    let at_i = get_or_append_left names (name ∷ []) d i (omega arith) in
    let at_j = get_or_append_left names (name ∷ []) d j high in
    rw (at_i, at_j) at whole)

pub distinct-last : (names : List (List ℕ)) (name : List ℕ) → IsDistinct same_name (names ++ name ∷ []) → position (same_name name) names ≡ None
distinct-last names name h =
    let apart : list_any (same_name name) names ≡ false = list_any_none (same_name name) names (λ k d within.
    let whole : same_name (get_or (names ++ name ∷ []) k d) (get_or (names ++ name ∷ []) (length names) d) ≡ false =
    apart_from_distinct same_name (names ++ name ∷ []) k (length names) d h within (omega (arith, length_push names name)) in
    let at_k = get_or_append_left names (name ∷ []) d k within in
    let at_last = get_or_at names name [] d (length names) refl in
    nat_list_eq_equiv.symm name (get_or names k d) ∙ (rw (at_k, at_last) at whole)) in
    rw (place_any (same_name name) names ∙ apart) refl

pub IsZones-front : (zones new : ZonesData) (name : List ℕ) → IsZones zones → zones.names ≡ new.names ++ name ∷ [] → 1 < length zones.names →
    new.couplings ≡ take (length zones.couplings - length new.names) zones.couplings → IsZones new
IsZones-front zones new name ok is more coupled =
    let size : length zones.names ≡ length new.names + 1 = ap length is ∙ length_push new.names name in
    let twice : length zones.couplings ≡ pairs (length new.names) + length new.names = ok.paired ∙ ap pairs size ∙ pairs-next (length new.names) in
    record {
      first = get_front new.names (name ∷ []) main_zone (omega arith) (rw is at ok.first);
      distinct = distinct-front new.names name (rw is at ok.distinct);
      few = omega (arith, ok.few);
      paired =
          ap length coupled
          ∙ length-take-le (length zones.couplings - length new.names) zones.couplings (omega arith)
          ∙ omega arith;
    }

-- a zone that was taken away is put back
pub put_back : (zones new : ZonesData) (name : List ℕ) → zones.names ≡ new.names ++ name ∷ [] → length new.names ≤ length zones.couplings →
    new.couplings ≡ take (length zones.couplings - length new.names) zones.couplings →
    list_all is_apart (drop (length zones.couplings - length new.names) zones.couplings) ≡ true → with_zone new name ≡ zones
put_back zones new name is room coupled free =
    let rest : List Coupling = drop (length zones.couplings - length new.names) zones.couplings in
    let count : length rest ≡ length new.names = omega (arith, length-drop (length zones.couplings - length new.names) zones.couplings) in
    let apart : replicate (length new.names) Apart ≡ rest = ap (λ n. replicate n Apart) (sym count) ∙ sym (all_apart rest free) in
    let whole : new.couplings ++ replicate (length new.names) Apart ≡ zones.couplings =
    ap (λ q. q ++ replicate (length new.names) Apart) coupled
    ∙ ap (λ q. take (length zones.couplings - length new.names) zones.couplings ++ q) apart
    ∙ take-append-drop (length zones.couplings - length new.names) zones.couplings in
    rw (← is, whole) refl

pub free-with_zone : (zones : ZonesData) (name : List ℕ) → is_last_free (with_zone zones name) ≡ true
free-with_zone zones name =
    let apart : List Coupling = replicate (length zones.names) Apart in
    let place : length zones.couplings ≡ length (zones.couplings ++ apart) - (length (zones.names ++ name ∷ []) - 1) =
    omega (arith, length-append zones.couplings apart, length-replicate {A = Coupling} (length zones.names) Apart, length_push zones.names name) in
    rw (drop_at zones.couplings apart _ place) (apart_all (length zones.names))

pub first_ok : IsZones first_zones
unfolding pairs IsDistinct
first_ok = record { first = refl; distinct = IsDistinct-cons same_name main_zone [] tt tt; few = omega arith; paired = refl }

-- a coupling is put back
pub coupling_back : (names : List (List ℕ)) (couplings : List Coupling) (a b : ℕ) (coupling : Coupling) → a ≢ b →
    with_coupling (record { names = names; couplings = set couplings (pair_place a b) coupling }) a b (coupling_of (record { names = names; couplings = couplings }) a b)
    ≡ record { names = names; couplings = couplings }
coupling_back names couplings a b coupling apart =
    rw (ne_eqb a b apart, set-set couplings (pair_place a b) coupling (get_or couplings (pair_place a b) Apart), set-get_or couplings (pair_place a b) Apart) refl
