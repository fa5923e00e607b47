use Rattle.rf_show.proofs.TogetherLemmas.{zones-placed}
use Rattle.rf_show.proofs.show.Show.joined.Goals as goal
use Rattle.rf_base.proofs.ListLaws.{tested_below}

pub all_meet-requires-clause-placed : goal.all_meet-requires-clause-placed
all_meet-requires-clause-placed c = rw (c.zones.ensures, c.carriers.ensures.value) (zones-placed _ c.carriers.ensures.form)

pub share_minute-requires : goal.share_minute-requires
share_minute-requires c = rw c.carriers-then-all_meet.ensures.value (tested_below _ _ c.requires)
