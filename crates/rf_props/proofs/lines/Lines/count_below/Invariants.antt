use Rattle.std.proofs.Common.{◌-◌}
use Rattle.rf_propagate.specs.Laws.{numbers_of}
use Rattle.rf_props.proofs.RangeLemmas.{IsBetween}
use Rattle.rf_props.proofs.lines.Lines.count_below.Given as goal

abbrev pub invariant-loop-from : goal.invariant-loop-from
invariant-loop-from l = IsBetween (numbers_of l.self) l.number l.from l.upto

abbrev pub decreases-loop-from : goal.decreases-loop-from
decreases-loop-from l = l.upto - l.from
