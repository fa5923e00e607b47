use Rattle.rf_show.proofs.TogetherLemmas.{zones-placed}
use Rattle.rf_show.proofs.show.Show.meet.Goals as goal

pub meet_at-requires-clause-placed : goal.meet_at-requires-clause-placed
meet_at-requires-clause-placed c = rw (c.zones.ensures, c.carriers.ensures.value) (zones-placed _ c.carriers.ensures.form)
