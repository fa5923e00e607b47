-- Lemmas on sets of carriers.
use Rattle.std.proofs.Common.{◌≡◌, true}
use Rattle.std.specs.List.{list_all}
use Rattle.std.proofs.lemmas.List.Sums.{AllPass-from_list_all, list_all-from_AllPass}
use Rattle.rf_show.specs.Show.{ShowData, belongs, has_zone, is_show}
use Rattle.rf_show.proofs.KeptLaws.{carriers_kept, kept}
use Rattle.rf_show.specs.declared.carrier.Carrier.{Carrier}
use Rattle.std.proofs.lemmas.Bool.{and_parts}

-- the zone of each carrier is there
pub zones-placed : (show : ShowData) → is_show show ≡ true → list_all (λ (c : Carrier). has_zone show.zones c.zone) show.carriers ≡ true
zones-placed show h =
    list_all-from_AllPass (λ (c : Carrier). has_zone show.zones c.zone) show.carriers
    (λ k d low. (and_parts _ _ (AllPass-from_list_all (belongs show.profiles show.zones) show.carriers (carriers_kept show.profiles show.zones show.carriers (kept show h).carriers).placed k d low)).1)
