use Rattle.rf_show.proofs.KeptLaws.{carriers_kept, kept}
use Rattle.rf_show.proofs.show.Show.carriers.Goals as goal

pub returns-clause-few : goal.returns-clause-few
returns-clause-few c = rw (← c.self.view_is) (carriers_kept c.self.inside.profiles.items c.self.inside.zones c.self.inside.carriers.items (kept _ c.self.invariant.0).carriers).few
