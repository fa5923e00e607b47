use Rattle.std.proofs.Common.{ℕ}
use Rattle.rf_margin.specs.Answers.{IsWidened}
use Rattle.rf_margin.specs.Widened.{Widened}
use Rattle.rf_session.proofs.Obeying.{ok_then}
use Rattle.rf_session.proofs.inquiry.widened.Goals as goal

pub returns : goal.returns
returns c =
    ok_then c.widen_text.result (λ text. (n : ℕ) → IsWidened c.args.show.now n c.in_ok-answer.answer → Widened c.args.show.now n text.items)
    (λ text. Widened c.args.show.now c.args.budget text.items) c.widen_text.ensures.widened (λ text all. all c.args.budget c.in_ok-answer.ensures.widened)
