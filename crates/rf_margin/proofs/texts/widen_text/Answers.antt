use Rattle.std.proofs.Common.{◌++◌, ap, ◌∙◌}
use Rattle.rf_margin.specs.Texts.{text_of}
use Rattle.rf_margin.proofs.Replies.{reply_of}
use Rattle.rf_margin.proofs.texts.widen_text.Goals as goal

pub returns-clause-widened : goal.returns-clause-widened
returns-clause-widened c = λ n may.
    reply_of c.raising_keeps_allowed.ensures c.case_is_asked.ensures c.args.show.now n c.args.answer.now _
    (c.in_ok-add_answer.ensures ∙ ap (λ head. head ++ text_of c.args.show.now c.args.answer.now) c.new-text.ensures.items) may
