use Rattle.std.specs.List.{flat_map, range_with_len}
use Rattle.rf_text.specs.Shows.{Adds, pairs_with}
use Rattle.rf_text.proofs.show_lines.add_couplings.Given as goal

abbrev pub invariant-loop-a : goal.invariant-loop-a
invariant-loop-a l = Adds l.initial.lines l.lines (flat_map (pairs_with l.coupling l.zones) (range_with_len 0 l.a))
