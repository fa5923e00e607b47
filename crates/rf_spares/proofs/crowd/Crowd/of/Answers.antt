use Rattle.std.proofs.Common.{ℕ, List, inl, inr, ◌≡◌, ap, sym, ◌∙◌, map, [], if◌then◌else◌, nat_le, slice_index_or, unwrap_or}
use Rattle.rf_show.specs.Show.{zone_number, ShowData}
use Rattle.rf_zones.specs.Slices.{share_minute}
use Rattle.rf_spares.specs.Crowds.{HearsAll, own_number, with_newcomers, zone_numbers}
use Rattle.rf_spares.specs.Newcomers.{zone_name}
use Rattle.std.proofs.lemmas.Bool.{cases_Bool}
use Rattle.rf_spares.proofs.crowd.Crowd.of.Goals as goal

-- masks for two and for three are masks for a set of any size
hears : {X : Type 0} (mask : X → ℕ) (show : ShowData) (ns : List ℕ) (a : ℕ) (reach heard : X) (size : ℕ) → HearsAll show ns 2 a (mask reach) → HearsAll show ns 3 a (mask heard)
    → HearsAll show ns size a (mask (if nat_le size 2 then reach else heard))
hears mask show ns a reach heard size pair more b h =
    elim (cases_Bool (nat_le size 2)) [
      | inl e ↦ rw e (pair b h)
      | inr e ↦ rw e (more b h)
    ]

pub returns-clause-known : goal.returns-clause-known
returns-clause-known c =
    let show = c.args.show.now in
    let named : c.name.result ≡ zone_name show c.args.zone = sym (ap (λ o. unwrap_or o []) (rw c.zones.ensures at c.name.ensures)) in
    let own : c.number_of-own.result ≡ own_number show c.args.zone = c.number_of-own.ensures.value ∙ ap (zone_number show.zones) named in
    let numbers : c.zone_numbers-numbers.result ≡ zone_numbers show c.args.zone =
    c.zone_numbers-numbers.ensures.value ∙ ap (with_newcomers (map (λ d. zone_number show.zones d.zone) show.carriers)) own in
    record {
      profile = c.requires.profile;
      zone = c.requires.zone;
      few = c.times-times.ensures.few;
      shown = c.times-times.ensures.form;
      hears = λ size a low. hears (λ masks. slice_index_or masks a 0) show (zone_numbers show c.args.zone) _ _ _ size ((rw numbers at c.make_masks-2.ensures) a low)
          ((rw numbers at c.make_masks.ensures) a low);
      own = λ size. hears (λ mask. mask) show (zone_numbers show c.args.zone) _ _ _ size (rw (numbers, own) at c.hearers-2.ensures) (rw (numbers, own) at c.hearers.ensures);
      common = λ set. c.in_ok-of.ensures.common set ∙ ap (λ t. share_minute t set) c.times-times.ensures.value;
    }
