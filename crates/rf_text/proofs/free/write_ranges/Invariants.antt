use Rattle.rf_text.proofs.RunLemmas.{RangesWritten}
use Rattle.rf_text.proofs.free.write_ranges.Given as goal

abbrev pub invariant-loop-range : goal.invariant-loop-range
invariant-loop-range l = RangesWritten l.show l.carrier l.initial.text l.range-items l.range-index l.text l.total l.start
