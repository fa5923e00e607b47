use Rattle.std.proofs.Common.{sym, arith, true≢false}
use Rattle.rf_domain.proofs.Within.{word_apart}
use Rattle.rf_domain.proofs.words.are_within.Goals as goal

pub returns-then-lacking-ne0 : goal.returns-then-lacking-ne0
returns-then-lacking-ne0 c = (
  λ wrong. absurd (true≢false (sym wrong)),
  λ within. absurd (word_apart c.args.words.now c.args.others.now c.loop-i.i c.lacking.result (omega arith) c.if-lacking-ne0.true c.lacking.ensures within),
)
