use Rattle.rf_rules.specs.Renewed.{precedes}
use Rattle.rf_rules.proofs.MergeLemmas.{Walked}
use Rattle.rf_rules.proofs.merged.add_merged.Given as goal

abbrev pub invariant-loop-conflict : goal.invariant-loop-conflict
invariant-loop-conflict l = Walked (precedes l.kind) l.initial.rest l.shown l.rest l.conflict-index l.initial.tally l.tally
