use Rattle.rf_audit.specs.Left.{HasNoneIn}
use Rattle.rf_audit.proofs.marks.Marks.first.Given as goal

abbrev pub invariant-loop-k : goal.invariant-loop-k
invariant-loop-k l = HasNoneIn l.self l.from l.k
