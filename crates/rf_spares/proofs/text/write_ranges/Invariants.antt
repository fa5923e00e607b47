use Rattle.rf_spares.specs.Runs.{flag_at}
use Rattle.rf_spares.proofs.RunLemmas.{RangesWritten}
use Rattle.rf_spares.proofs.text.write_ranges.Given as goal

abbrev pub invariant-loop-range : goal.invariant-loop-range
invariant-loop-range l = RangesWritten l.channels (flag_at l.flags) l.initial.text l.range-items l.range-index l.text l.start
