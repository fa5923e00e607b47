use Rattle.std.proofs.Common.{◌≡◌}
use Rattle.rf_domain.specs.Sets.{sizes}
use Rattle.rf_log.specs.Case.{counts_of}
use Rattle.rf_search.proofs.lean.lean.Given as goal

abbrev pub invariant-loop-n : goal.invariant-loop-n
invariant-loop-n g l = sizes l.sets ≡ counts_of (g.T.Theory.case l.theory)

abbrev pub invariant-loop-hint : goal.invariant-loop-hint
invariant-loop-hint g l = sizes l.sets ≡ counts_of (g.T.Theory.case l.theory)
