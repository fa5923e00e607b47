use Rattle.std.proofs.Common.{take}
use Rattle.rf_rules.specs.Tallies.{Extends}
use Rattle.rf_rules.proofs.merged.add_all.Given as goal

abbrev pub invariant-loop-conflict : goal.invariant-loop-conflict
invariant-loop-conflict l = Extends l.initial.tally l.tally (take l.conflict-index l.conflicts)
