use Rattle.rf_rules.specs.Renewed.{precedes}
use Rattle.rf_rules.proofs.MergeLemmas.{Ahead}
use Rattle.rf_rules.proofs.merged.add_ahead.Given as goal

abbrev pub invariant-loop-i : goal.invariant-loop-i
invariant-loop-i l = Ahead (precedes l.kind) l.conflict l.kept l.i l.initial.tally l.tally
