use Rattle.std.proofs.Common.{◌-◌}
use Rattle.rf_text.proofs.RunLemmas.{Written}
use Rattle.rf_text.proofs.free.write_runs.Given as goal

abbrev pub invariant-loop-first : goal.invariant-loop-first
invariant-loop-first l = Written l.show l.carrier l.initial.text l.start l.end l.text l.total l.next

abbrev pub decreases-loop-first : goal.decreases-loop-first
decreases-loop-first l = l.end - l.next
