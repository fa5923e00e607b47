use Rattle.std.proofs.Common.{sym}
use Rattle.rf_show.specs.Show.{is_carrier}
use Rattle.rf_show.proofs.ListLemmas.{change_first_at}
use Rattle.rf_show.proofs.carrier_steps.with_at.Goals as goal

pub returns-clause-there : goal.returns-clause-there
returns-clause-there c =
    let found = c.index-carriers-place in
    sym (change_first_at (is_carrier c.args.name) _ c.args.carriers.now c.carrier_place-place.result found.result
    c.carrier_place-place.ensures.place c.carrier_place-place.ensures.within found.is)
