use Rattle.std.proofs.Common.{ℕ, List, ◌++◌, ap, ◌∙◌}
use Rattle.rf_core.specs.Answers.{text_of}
use Rattle.rf_core.proofs.AnswerLemmas.{may-be-answered}
use Rattle.rf_core.proofs.texts.why_text.Goals as goal

pub returns-clause-blocking : goal.returns-clause-blocking
returns-clause-blocking c = λ n is.
    may-be-answered c.args.show.now n c.args.answer.now c.add_answer.new.text.items is
    (c.in_ok-add_answer.ensures ∙ ap (λ (bytes : List ℕ). bytes ++ text_of c.args.show.now c.args.answer.now) c.new-text.ensures.items)
