use Rattle.rf_show.specs.Show.{is_carrier}
use Rattle.rf_checker.proofs.CarrierLemmas.{no_place}
use Rattle.rf_checker.proofs.carriers.place_named.Goals as goal

pub returns-in-None : goal.returns-in-None
returns-in-None c = no_place (is_carrier c.args.name) c.args.carriers.now c.in-None.ensures
