use Rattle.std.proofs.Common.{◌≡◌, refl, rules}
use Rattle.rf_session.specs.declared.answer.Answer.TheVariants.{Inquiry as Ask}
use Rattle.rf_session.proofs.Obeying.{told_cut, told_given}
use Rattle.rf_session.proofs.show_machine.ShowMachine.tell.Goals as goal

pub returns-clause-given : goal.returns-clause-given
returns-clause-given g c =
    let here : c.show.result.now ≡ c.args.self.now.show = search rules in
    told_given c.say.result c.args.self.now c.show.result.now (Ask c.args.inquiry) c.args.inquiry c.in-Ok.reply _ _ refl here c.in-Ok.ensures
    c.say.ensures.whole c.say.ensures.refuses

pub returns-clause-cut : goal.returns-clause-cut
returns-clause-cut g c =
    let here : c.show.result.now ≡ c.args.self.now.show = search rules in
    told_cut c.say.result c.args.self.now c.show.result.now (Ask c.args.inquiry) c.args.inquiry c.in-Ok.reply _ _ refl here c.in-Ok.ensures
    c.say.ensures.part c.say.ensures.only
