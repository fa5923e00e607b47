use Rattle.std.proofs.Common.{◌≡◌, length}
use Rattle.rf_checker.specs.Carriers.{place_at}
use Rattle.rf_checker.proofs.CarrierLemmas.{four_mapped}
use Rattle.rf_checker.proofs.carriers.roles_with.Goals as goal

pub returns : goal.returns
returns c =
    let four : length c.args.roles.now ≡ 4 = c.told-roles in
    rw (c.place_at.ensures, c.place_at-2.ensures, c.place_at-3.ensures, c.place_at-4.ensures) (four_mapped (place_at c.args.places.now c.args.other) c.args.roles.now four)
