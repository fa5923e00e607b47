use Rattle.std.proofs.Common.{sym, ◌∙◌, ap, set}
use Rattle.rf_show.specs.Show.{is_carrier}
use Rattle.rf_show.proofs.ListLemmas.{change_first_at}
use Rattle.rf_show.proofs.RoomLemmas.{time_room}
use Rattle.rf_show.proofs.carrier_steps.with_time.Goals as goal

pub add-requires-clause-room : goal.add-requires-clause-room
add-requires-clause-room c =
    time_room c.args.carriers.now c.args.name c.args.from c.args.to _ _ c.requires c.carrier_place-place.ensures.place c.carrier_place-place.ensures.within c.index-carriers-place.is

pub returns-clause-there : goal.returns-clause-there
returns-clause-there c =
    let found = c.index-carriers-place in
    ap (λ times. set c.args.carriers.now c.carrier_place-place.result (record found.result { times = times })) c.add.ensures
    ∙ sym (change_first_at (is_carrier c.args.name) _ c.args.carriers.now c.carrier_place-place.result found.result
    c.carrier_place-place.ensures.place c.carrier_place-place.ensures.within found.is)
