-- A show, made by the commands of its text.
use Rattle.std.proofs.Common.{◌≡◌, ◌++◌, ℕ, List, [], ◌∷◌, length, map, drop, ap, arith, refl, rules, subst, Some, slice_get, leb-true}
use Rattle.std.specs.List.{flat_map}
use Rattle.rf_zones.specs.ZoneNames.{main_zone}
use Rattle.rf_zones.specs.Zones.{pairs}
use Rattle.rf_show.specs.Show.{ShowData, first_show, is_show}
use Rattle.rf_text.specs.ShowLaw.{HotPointsOf, IsShowOver}
use Rattle.rf_text.specs.Shows.{ban_line, carrier_lines, profile_lines, scan_line, show_lines, zone_line}
use Rattle.rf_text.proofs.PartsMade.{carriers_made, profiles_made}
use Rattle.rf_text.proofs.MadeLemmas.{bans_made, made, made_all, scans_made}
use Rattle.rf_text.proofs.ZonesMade.{couplings_made, uncoupled, zones_made}

main_first : (names : List (List ℕ)) → slice_get names 0 ≡ Some main_zone → main_zone ∷ drop 1 names ≡ names
main_first [] h = cc
main_first (x ∷ names) h = let is : x ≡ main_zone = cc in rw is refl

rest_made : (hot : HotPointsOf) (show : ShowData) → IsShowOver hot show
    → made hot (record first_show { zones = show.zones })
    (flat_map profile_lines show.profiles ++ (map ban_line show.bans ++ (map scan_line show.scans ++ flat_map carrier_lines show.carriers))) ≡ Some show
unfolding is_show
rest_made hot show w =
    -- what the test of a show says of each part, is found in this
    let kept = w.whole.kept in
    let zones = record first_show { zones = show.zones } in
    let bans = record zones { profiles = show.profiles } in
    made_all hot _ _ _ (flat_map profile_lines show.profiles) _ (profiles_made hot zones show.profiles refl (search (rules, leb-true)) w.textual w.whole.profiles (search (rules, leb-true)))
    (made_all hot _ _ _ (map ban_line show.bans) _ (bans_made hot bans show.bans (search (rules, leb-true)) w.whole.bans (search (rules, leb-true)))
    (made_all hot _ _ _ (map scan_line show.scans) _ (scans_made hot (record bans { bans = show.bans }) show.scans (search (rules, leb-true)) w.points (search (rules, leb-true)))
    (carriers_made hot (record show { carriers = [] }) show.carriers (search (rules, leb-true)) (search (rules, leb-true)) (search (rules, leb-true))
    w.whole.carriers (search (rules, leb-true)))))

pub commands_make_show : (hot : HotPointsOf) (show : ShowData) → IsShowOver hot show → made hot first_show (show_lines show) ≡ Some show
unfolding pairs
commands_make_show hot show w =
    let names = show.zones.names in
    let whole = main_first names w.whole.zones.first in
    let zones = subst (λ all. made hot first_show (map zone_line (drop 1 names)) ≡ Some (record first_show { zones = uncoupled all })) whole
    (zones_made hot first_show (main_zone ∷ []) (drop 1 names) (rw whole w.whole.zones.distinct) (omega (arith, ap length whole, w.whole.zones.few))) in
    made_all hot _ _ _ (map zone_line (drop 1 names)) _ zones
    (couplings_made hot first_show names show.zones.couplings w.whole.zones.distinct w.whole.zones.paired show _ (rest_made hot show w))
