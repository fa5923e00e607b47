use Rattle.std.proofs.Common.{ℕ}
use Rattle.rf_core.specs.Answers.{IsBlocked}
use Rattle.rf_core.specs.Blocking.{Blocking}
use Rattle.rf_session.proofs.Obeying.{ok_then}
use Rattle.rf_session.proofs.inquiry.blocking.Goals as goal

pub returns : goal.returns
returns c =
    ok_then c.why_text.result (λ text. (n : ℕ) → IsBlocked c.args.show.now n c.in_ok-answer.answer → Blocking c.args.show.now n text.items)
    (λ text. Blocking c.args.show.now c.args.budget text.items) c.why_text.ensures.blocking (λ text all. all c.args.budget c.in_ok-answer.ensures.blocked)
