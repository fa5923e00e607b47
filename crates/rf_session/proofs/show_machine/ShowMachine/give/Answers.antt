use Rattle.std.proofs.Common.{refl}
use Rattle.rf_session.proofs.Obeying.{said_cut, said_given}
use Rattle.rf_session.proofs.show_machine.ShowMachine.give.Goals as goal

pub returns-in-Reply-clause-given : goal.returns-in-Reply-clause-given
returns-in-Reply-clause-given g c =
    said_given c.say.result _ _ c.args.answer c.in-Reply.reply _ _ _ c.in-Reply.is refl refl c.say.ensures.whole c.say.ensures.refuses

pub returns-in-Reply-clause-cut : goal.returns-in-Reply-clause-cut
returns-in-Reply-clause-cut g c =
    said_cut c.say.result _ c.args.answer c.in-Reply.reply _ _ _ c.in-Reply.is refl c.say.ensures.part c.say.ensures.only
