use Rattle.std.proofs.Common.{not, ◌&&◌}
use Rattle.rf_domain.proofs.Swept.{Swept}
use Rattle.rf_domain.proofs.words.clear_range.Given as goal

abbrev pub invariant-loop-word : goal.invariant-loop-word
invariant-loop-word l = Swept (λ old here. old && not here) (λ old here. old && here) l.initial.words l.words l.lo l.hi l.word l.removed
