use Rattle.std.proofs.Common.{◌+◌, ◌-◌, filter, map}
use Rattle.std.specs.List.{range_with_len}
use Rattle.rf_text.specs.Shows.{Adds, pair_line, stand}
use Rattle.rf_text.proofs.show_lines.add_couplings_with.Given as goal

abbrev pub invariant-loop-b : goal.invariant-loop-b
invariant-loop-b l =
    Adds l.initial.lines l.lines (map (pair_line l.coupling l.zones l.a) (filter (stand l.coupling l.zones l.a) (range_with_len (l.a + 1) (l.b - (l.a + 1)))))
