use Rattle.std.proofs.Common.{◌≡◌, ◌≤◌, ◌<◌, length, get_or, leb-true, ltb-true}
use Rattle.rf_show.proofs.ListLemmas.{remove_insert, set_back}
use Rattle.rf_show.proofs.change.make_change.Goals as goal

pub returns-in-Put-clause-back : goal.returns-in-Put-clause-back
returns-in-Put-clause-back g c =
    let xs = c.args.items.now.items in
    let place : c.in-Put.place ≤ length xs = leb-true _ _ (rw c.in-Put.is at c.requires.fits) in
    rw c.put.ensures.items (remove_insert xs c.in-Put.place c.in-Put.item place)

pub returns-in-Set-clause-back : goal.returns-in-Set-clause-back
returns-in-Set-clause-back g c =
    let xs = c.args.items.now.items in
    let item = c.replace-item.result in
    let place : c.in-Set.place < length xs = ltb-true _ _ (rw c.in-Set.is at c.requires.fits) in
    let was : item ≡ get_or xs c.in-Set.place item = rw c.replace-item.ensures.value c.index_mut.ensures.value in
    set_back xs c.in-Set.place item c.replace-item.new.dest place was
