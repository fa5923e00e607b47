use Rattle.std.proofs.Common.{map, take}
use Rattle.rf_text.specs.Shows.{Adds, time_line}
use Rattle.rf_text.proofs.show_lines.add_times.Given as goal

abbrev pub invariant-loop-from : goal.invariant-loop-from
invariant-loop-from l = Adds l.initial.lines l.lines (map (time_line l.name) (take l.from-index l.times))
