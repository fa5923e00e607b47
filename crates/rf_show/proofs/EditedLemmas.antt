use Rattle.std.proofs.Common.{◌≡◌, ℕ, ◌+◌, ◌<◌, ◌≤◌, Bool, true, false, ◌&&◌, ◌||◌, cond, List, [], ◌∷◌, ◌++◌, length, nat_eq, set, remove, position, Some, None, is_some, Option, refl, ap, sym, ◌∙◌}
use Rattle.std.proofs.Common.{arith, length-append}
use Rattle.std.specs.List.{list_all, list_any}
use Rattle.std.proofs.lemmas.List.{map-append}
use Rattle.std.proofs.lemmas.List.Edits.{length-remove}
use Rattle.std.proofs.lemmas.List.Folds.{list_all-append, list_any-append}
use Rattle.std.proofs.lemmas.Bool.{le-leb, leb-true, or_parts, or_left, and_from, and_parts, false_from_ne_true}
use Rattle.rf_base.specs.Name.{same_name}
use Rattle.rf_exclusions.specs.declared.ban.Ban.{Ban}
use Rattle.rf_exclusions.specs.declared.scan_set.ScanSet.{ScanSet}
use Rattle.rf_profiles.specs.declared.profile.Profile.{Profile}
use Rattle.rf_zones.specs.Zones.{ZonesData, pair_place, with_zone, with_coupling}
use Rattle.rf_zones.specs.declared.coupling.Coupling.{Coupling}
use Rattle.rf_show.specs.declared.carrier.Carrier.{Carrier}
use Rattle.rf_show.specs.Limits.{most_bans, most_carriers, most_profiles, most_scans}
use Rattle.rf_show.specs.After.{change_first, remove_first, placed}
use Rattle.rf_show.specs.Reasons.{moves_locked}
use Rattle.rf_profiles.specs.Profile.{differ, profile_names}
use Rattle.rf_show.specs.Show.{ShowData, are_carriers, are_bans, are_scans, is_ban, is_carrier, is_profile, is_scan, has_profile, has_zone, has_zone_or_all, is_used, carrier_names, is_narrow}
use Rattle.rf_show.specs.Show.{is_steady, carrier_named, belongs}
use Rattle.rf_show.proofs.FirstLaws.{map-change_first, length-change_first, list_all-change_first, list_all-change_found, length-remove_first, list_all-remove_first, list_any-remove_first}
use Rattle.rf_show.proofs.FirstLaws.{find_any}
use Rattle.rf_show.proofs.KeptLaws.{Kept, profiles_kept, are_kept_profiles, carriers_kept, are_kept_carriers}
use Rattle.rf_show.proofs.ListLemmas.{list_all-remove, list_all-wider}
use Rattle.rf_show.proofs.NameLemmas.{differ-remove_first, differ-append, same_both}
use Rattle.rf_show.proofs.PlaceLaws.{length-placed, map-placed, list_all-placed, placed_steady}
use Rattle.rf_base.proofs.ListLaws.{any_map, any_same, position_any}

-- whether a profile is there is seen in the names alone
pub has_profile_names : (ps : List Profile) (name : List ℕ) → has_profile ps name ≡ list_any (λ n. same_name n name) (profile_names ps)
has_profile_names ps name = find_any (is_profile name) ps ∙ sym (any_map (λ n. same_name n name) (λ p. p.name) ps)

-- ---- carriers

-- a change of the named carrier that keeps its names, and leaves it a frequency where it is locked
pub change_carrier_kept : (ps : List Profile) (z : ZonesData) (cs : List Carrier) (name : List ℕ) (f : Carrier → Carrier) → are_carriers ps z cs ≡ true → ((c : Carrier) → (f c).name ≡ c.name) →
    ((c : Carrier) → belongs ps z (f c) ≡ belongs ps z c) → ((c : Carrier) → carrier_named cs name ≡ Some c → is_steady c ≡ true → is_steady (f c) ≡ true) →
    are_carriers ps z (change_first (is_carrier name) f cs) ≡ true
change_carrier_kept ps z cs name f h names there steady =
    let k = carriers_kept ps z cs h in
    are_kept_carriers ps z (change_first (is_carrier name) f cs) (record {
      few = omega (arith, k.few, length-change_first (is_carrier name) f cs);
      apart = ap differ (map-change_first (λ c. c.name) (is_carrier name) f cs names) ∙ k.apart;
      placed = list_all-change_first (belongs ps z) (is_carrier name) f cs there ∙ k.placed;
      steady = list_all-change_found is_steady (is_carrier name) f cs k.steady steady;
    })

pub remove_carrier_kept : (ps : List Profile) (z : ZonesData) (cs : List Carrier) (name : List ℕ) → are_carriers ps z cs ≡ true → are_carriers ps z (remove_first (is_carrier name) cs) ≡ true
remove_carrier_kept ps z cs name h =
    let k = carriers_kept ps z cs h in
    are_kept_carriers ps z (remove_first (is_carrier name) cs) (record {
      few = omega (arith, k.few, length-remove_first (is_carrier name) cs);
      apart = differ-remove_first (λ c. c.name) (is_carrier name) cs k.apart;
      placed = list_all-remove_first (belongs ps z) (is_carrier name) cs k.placed;
      steady = list_all-remove_first is_steady (is_carrier name) cs k.steady;
    })

-- a carrier of a new name
pub add_carrier_kept : (ps : List Profile) (z : ZonesData) (cs : List Carrier) (c : Carrier) → are_carriers ps z cs ≡ true → length cs < most_carriers →
    list_any (is_carrier c.name) cs ≡ false → belongs ps z c ≡ true → is_steady c ≡ true → are_carriers ps z (cs ++ c ∷ []) ≡ true
add_carrier_kept ps z cs c h room new there steady =
    let k = carriers_kept ps z cs h in
    are_kept_carriers ps z (cs ++ c ∷ []) (record {
      few = omega (arith, room, length-append cs (c ∷ []));
      apart = ap differ (map-append (λ c. c.name) cs (c ∷ []))
          ∙ differ-append (carrier_names cs) (c.name ∷ []) k.apart refl
          (ap (λ b. b || false) (any_map (λ n. same_name n c.name) (λ c. c.name) cs ∙ new));
      placed = list_all-append (belongs ps z) cs (c ∷ []) ∙ and_from _ _ k.placed (ap (λ b. b && true) there);
      steady = list_all-append is_steady cs (c ∷ []) ∙ and_from _ _ k.steady (ap (λ b. b && true) steady);
    })

pub place_kept : (ps : List Profile) (z : ZonesData) (cs : List Carrier) (ats : List (Option ℕ)) → are_carriers ps z cs ≡ true → moves_locked cs ats ≡ false → are_carriers ps z (placed cs ats) ≡ true
place_kept ps z cs ats h stay =
    let k = carriers_kept ps z cs h in
    are_kept_carriers ps z (placed cs ats) (record {
      few = omega (arith, k.few, length-placed cs ats);
      apart = ap differ (map-placed (λ c. c.name) cs ats (λ c at. refl)) ∙ k.apart;
      placed = list_all-placed (belongs ps z) cs ats (λ c at. refl) ∙ k.placed;
      steady = placed_steady cs ats k.steady stay;
    })

-- they belong to more profiles and zones, too
pub wider_kept : (ps qs : List Profile) (z w : ZonesData) (cs : List Carrier) → ((n : List ℕ) → has_profile ps n ≡ true → has_profile qs n ≡ true) →
    ((n : List ℕ) → has_zone z n ≡ true → has_zone w n ≡ true) → are_carriers ps z cs ≡ true → are_carriers qs w cs ≡ true
wider_kept ps qs z w cs hp hz h =
    let k = carriers_kept ps z cs h in
    are_kept_carriers qs w cs (record {
      few = k.few;
      apart = k.apart;
      placed = list_all-wider (belongs ps z) (belongs qs w) cs
          (λ c. λ b. let parts = and_parts _ _ b in and_from _ _ (hp c.profile parts.0) (hz c.zone parts.1)) k.placed;
      steady = k.steady;
    })

-- ---- profiles

-- a change of the named profile that keeps its name and its widths
pub change_profile_kept : (s : ShowData) (name : List ℕ) (f : Profile → Profile) → Kept s → ((p : Profile) → (f p).name ≡ p.name) →
    ((p : Profile) → is_narrow (f p) ≡ is_narrow p) → Kept (record s { profiles = change_first (is_profile name) f s.profiles })
change_profile_kept s name f k names widths =
    let ps : List Profile = change_first (is_profile name) f s.profiles in
    let same : profile_names ps ≡ profile_names s.profiles = map-change_first (λ p. p.name) (is_profile name) f s.profiles names in
    let own = profiles_kept s.profiles k.profiles in
    record {
      profiles = are_kept_profiles ps (record {
        few = omega (arith, own.few, length-change_first (is_profile name) f s.profiles);
        apart = ap differ same ∙ own.apart;
        narrow = list_all-change_first is_narrow (is_profile name) f s.profiles widths ∙ own.narrow;
      });
      carriers = wider_kept s.profiles ps s.zones s.zones s.carriers
          (λ n. λ h. has_profile_names ps n ∙ ap (list_any (λ m. same_name m n)) same ∙ sym (has_profile_names s.profiles n) ∙ h)
          (λ n. λ h. h) k.carriers;
      bans = k.bans;
      scans = k.scans;
    }

-- a profile of another name is still there
other_profile : (ps : List Profile) (name other : List ℕ) → same_name other name ≡ false → has_profile ps other ≡ true → has_profile (remove_first (is_profile name) ps) other ≡ true
other_profile ps name other apart h =
    find_any (is_profile other) (remove_first (is_profile name) ps)
    ∙ list_any-remove_first (is_profile other) (is_profile name) ps
    (λ p. λ e. false_from_ne_true (same_name p.name other) (λ f. let both = same_both p.name name other e f in cc (apart, both)))
    (sym (find_any (is_profile other) ps) ∙ h)

belong_still : (ps : List Profile) (z : ZonesData) (name : List ℕ) (cs : List Carrier) → is_used cs name ≡ false →
    list_all (belongs ps z) cs ≡ true → list_all (belongs (remove_first (is_profile name) ps) z) cs ≡ true
belong_still ps z name [] free h = refl
belong_still ps z name (c ∷ cs) free h =
    let apart = or_parts (same_name c.profile name) (is_used cs name) free in
    let parts = and_parts _ _ h in
    let own = and_parts _ _ parts.0 in
    and_from _ _ (and_from _ _ (other_profile ps name c.profile apart.0 own.0) own.1) (belong_still ps z name cs apart.1 parts.1)

-- a profile that no carrier has
pub drop_profile_kept : (s : ShowData) (name : List ℕ) → Kept s → is_used s.carriers name ≡ false → Kept (record s { profiles = remove_first (is_profile name) s.profiles })
drop_profile_kept s name k free =
    let ps : List Profile = remove_first (is_profile name) s.profiles in
    let own = profiles_kept s.profiles k.profiles in
    let all = carriers_kept s.profiles s.zones s.carriers k.carriers in
    record {
      profiles = are_kept_profiles ps (record {
        few = omega (arith, own.few, length-remove_first (is_profile name) s.profiles);
        apart = differ-remove_first (λ p. p.name) (is_profile name) s.profiles own.apart;
        narrow = list_all-remove_first is_narrow (is_profile name) s.profiles own.narrow;
      });
      carriers = are_kept_carriers ps s.zones s.carriers
          (record { few = all.few; apart = all.apart; placed = belong_still s.profiles s.zones name s.carriers free all.placed; steady = all.steady });
      bans = k.bans;
      scans = k.scans;
    }

-- profiles of new names that differ
pub add_profiles_kept : (s : ShowData) (list : List Profile) → Kept s → length s.profiles + length list ≤ most_profiles → list_any (λ p. has_profile s.profiles p.name) list ≡ false →
    differ (profile_names list) ≡ true → list_all is_narrow list ≡ true → Kept (record s { profiles = s.profiles ++ list })
add_profiles_kept s list k room new apart narrow =
    let own = profiles_kept s.profiles k.profiles in
    record {
      profiles = are_kept_profiles (s.profiles ++ list) (record {
        few = omega (arith, room, length-append s.profiles list);
        apart = ap differ (map-append (λ p. p.name) s.profiles list)
            ∙ differ-append (profile_names s.profiles) (profile_names list) own.apart apart
            (any_map (λ y. list_any (λ x. same_name x y) (profile_names s.profiles)) (λ p. p.name) list
            ∙ any_same (λ p. list_any (λ x. same_name x p.name) (profile_names s.profiles)) (λ p. has_profile s.profiles p.name) list
            (λ p. sym (has_profile_names s.profiles p.name))
            ∙ new);
        narrow = list_all-append is_narrow s.profiles list ∙ and_from _ _ own.narrow narrow;
      });
      carriers = wider_kept s.profiles (s.profiles ++ list) s.zones s.zones s.carriers
          (λ n. λ h. find_any (is_profile n) (s.profiles ++ list) ∙ list_any-append (is_profile n) s.profiles list
          ∙ or_left _ _ (sym (find_any (is_profile n) s.profiles) ∙ h))
          (λ n. λ h. h) k.carriers;
      bans = k.bans;
      scans = k.scans;
    }

-- ---- bans and scans

pub add_ban_kept : (z : ZonesData) (bans : List Ban) (ban : Ban) → are_bans z bans ≡ true → length bans < most_bans → is_ban z ban ≡ true → are_bans z (bans ++ ban ∷ []) ≡ true
add_ban_kept z bans ban h room there =
    and_from _ _ (le-leb _ _ (omega (arith, room, length-append bans (ban ∷ []))))
    (list_all-append (is_ban z) bans (ban ∷ []) ∙ and_from _ _ (and_parts _ _ h).1 (ap (λ b. b && true) there))

pub remove_ban_kept : (z : ZonesData) (bans : List Ban) (i : ℕ) → are_bans z bans ≡ true → i < length bans → are_bans z (remove bans i) ≡ true
remove_ban_kept z bans i h within =
    let few : length bans ≤ most_bans = leb-true _ _ (and_parts _ _ h).0 in
    and_from _ _ (le-leb _ _ (omega (arith, few, length-remove bans i within))) (list_all-remove (is_ban z) bans i (and_parts _ _ h).1)

pub add_scan_kept : (z : ZonesData) (scans : List ScanSet) (scan : ScanSet) → are_scans z scans ≡ true → length scans < most_scans → is_scan z scan ≡ true → are_scans z (scans ++ scan ∷ []) ≡ true
add_scan_kept z scans scan h room there =
    and_from _ _ (le-leb _ _ (omega (arith, room, length-append scans (scan ∷ []))))
    (list_all-append (is_scan z) scans (scan ∷ []) ∙ and_from _ _ (and_parts _ _ h).1 (ap (λ b. b && true) there))

pub remove_scan_kept : (z : ZonesData) (scans : List ScanSet) (i : ℕ) → are_scans z scans ≡ true → i < length scans → are_scans z (remove scans i) ≡ true
remove_scan_kept z scans i h within =
    let few : length scans ≤ most_scans = leb-true _ _ (and_parts _ _ h).0 in
    and_from _ _ (le-leb _ _ (omega (arith, few, length-remove scans i within))) (list_all-remove (is_scan z) scans i (and_parts _ _ h).1)

-- ---- zones

wider_zone : (z w : ZonesData) (o : Option (List ℕ)) → ((n : List ℕ) → has_zone z n ≡ true → has_zone w n ≡ true) → has_zone_or_all z o ≡ true → has_zone_or_all w o ≡ true
wider_zone z w None hz h = refl
wider_zone z w (Some name) hz h = hz name h

-- where no zone is lost
more_zones_kept : (s : ShowData) (w : ZonesData) → Kept s → ((n : List ℕ) → has_zone s.zones n ≡ true → has_zone w n ≡ true) → Kept (record s { zones = w })
more_zones_kept s w k hz = record {
  profiles = k.profiles;
  carriers = wider_kept s.profiles s.profiles s.zones w s.carriers (λ n. λ h. h) hz k.carriers;
  bans = and_from _ _ (and_parts _ _ k.bans).0
      (list_all-wider (is_ban s.zones) (is_ban w) s.bans
      (λ b. λ h. let parts = and_parts _ _ h in and_from _ _ (wider_zone s.zones w b.zone hz parts.0) parts.1) (and_parts _ _ k.bans).1);
  scans = and_from _ _ (and_parts _ _ k.scans).0
      (list_all-wider (is_scan s.zones) (is_scan w) s.scans
      (λ c. λ h.
      let width = and_parts _ _ h in
      let threshold = and_parts _ _ width.0 in
      and_from _ _ (and_from _ _ (hz c.zone threshold.0) threshold.1) width.1) (and_parts _ _ k.scans).1);
}

pub add_zone_kept : (s : ShowData) (name : List ℕ) → Kept s → Kept (record s { zones = with_zone s.zones name })
add_zone_kept s name k =
    more_zones_kept s (with_zone s.zones name) k
    (λ n. λ h. position_any (same_name n) (s.zones.names ++ name ∷ []) ∙ list_any-append (same_name n) s.zones.names (name ∷ [])
    ∙ or_left _ _ (sym (position_any (same_name n) s.zones.names) ∙ h))

names_cond : (b : Bool) (z w : ZonesData) → z.names ≡ w.names → (cond b z w).names ≡ z.names
names_cond true z w e = refl
names_cond false z w e = sym e

names_coupled : (z : ZonesData) (a b : ℕ) (coupling : Coupling) → (with_coupling z a b coupling).names ≡ z.names
names_coupled z a b coupling = names_cond (nat_eq a b) z (record z { couplings = set z.couplings (pair_place a b) coupling }) refl

pub couple_kept : (s : ShowData) (a b : ℕ) (coupling : Coupling) → Kept s → Kept (record s { zones = with_coupling s.zones a b coupling })
couple_kept s a b coupling k =
    more_zones_kept s (with_coupling s.zones a b coupling) k
    (λ n. λ h. ap (λ names. is_some (position (same_name n) names)) (names_coupled s.zones a b coupling) ∙ h)
