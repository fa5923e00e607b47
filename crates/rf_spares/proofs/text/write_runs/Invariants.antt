use Rattle.std.proofs.Common.{◌-◌}
use Rattle.rf_spares.specs.Runs.{flag_at}
use Rattle.rf_spares.proofs.RunLemmas.{Written}
use Rattle.rf_spares.proofs.text.write_runs.Given as goal

abbrev pub invariant-loop-first : goal.invariant-loop-first
invariant-loop-first l = Written l.channels (flag_at l.flags) l.initial.text l.start l.end l.text l.next

abbrev pub decreases-loop-first : goal.decreases-loop-first
decreases-loop-first l = l.end - l.next
