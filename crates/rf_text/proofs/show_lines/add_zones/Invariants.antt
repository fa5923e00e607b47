use Rattle.std.proofs.Common.{◌-◌, drop, map, take}
use Rattle.rf_text.specs.Shows.{Adds, zone_line}
use Rattle.rf_text.proofs.show_lines.add_zones.Given as goal

abbrev pub invariant-loop-z : goal.invariant-loop-z
invariant-loop-z l = Adds l.initial.lines l.lines (map zone_line (take (l.z - 1) (drop 1 l.zones.names)))
