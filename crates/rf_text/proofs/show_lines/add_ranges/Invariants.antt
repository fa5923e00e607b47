use Rattle.std.proofs.Common.{map, take}
use Rattle.rf_text.specs.Shows.{Adds, range_line}
use Rattle.rf_text.proofs.show_lines.add_ranges.Given as goal

abbrev pub invariant-loop-range : goal.invariant-loop-range
invariant-loop-range l = Adds l.initial.lines l.lines (map (range_line l.name) (take l.range-index l.ranges))
