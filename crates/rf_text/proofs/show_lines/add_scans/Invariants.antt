use Rattle.std.proofs.Common.{map, take}
use Rattle.rf_text.specs.Shows.{Adds, scan_line}
use Rattle.rf_text.proofs.show_lines.add_scans.Given as goal

abbrev pub invariant-loop-scan : goal.invariant-loop-scan
invariant-loop-scan l = Adds l.initial.lines l.lines (map scan_line (take l.scan-index l.scans))
