use Rattle.std.proofs.Common.{take}
use Rattle.std.specs.List.{flat_map}
use Rattle.rf_text.specs.Shows.{Adds, carrier_lines}
use Rattle.rf_text.proofs.show_lines.add_carriers.Given as goal

abbrev pub invariant-loop-carrier : goal.invariant-loop-carrier
invariant-loop-carrier l = Adds l.initial.lines l.lines (flat_map carrier_lines (take l.carrier-index l.carriers))
