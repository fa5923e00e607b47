use Rattle.std.proofs.Common.{Ok}
use Rattle.rf_session.proofs.Obeying.{cut_by, cut_none, replied_by}
use Rattle.rf_session.proofs.show_machine.ShowMachine.perform.Goals as goal
use Rattle.rf_base.proofs.ByteLaws.{Appends-nil}

pub returns-clause-replied : goal.returns-clause-replied
returns-clause-replied g c = replied_by c.args.self.now _ (Ok c.args.command) c.in-Ok.answer _ _ _ _ _ _ _ _ c.in-Ok.ensures.obeyed c.give.result _ c.give.ensures.given

pub returns-clause-cut : goal.returns-clause-cut
returns-clause-cut g c = cut_by c.args.self.now _ (Ok c.args.command) c.in-Ok.answer _ _ _ _ _ _ _ _ c.in-Ok.ensures.obeyed c.give.result c.give.ensures.cut

pub returns-in_default-clause-cut : goal.returns-in_default-clause-cut
returns-in_default-clause-cut g c = cut_none _ _ _ (Appends-nil _) c.obey.ensures.later
