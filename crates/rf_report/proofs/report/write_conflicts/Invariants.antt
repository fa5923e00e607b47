use Rattle.std.proofs.Common.{◌≡◌, ◌++◌, take, string_bytes}
use Rattle.std.specs.List.{flat_map}
use Rattle.rf_report.specs.Reports.{conflict_line}
use Rattle.rf_report.proofs.report.write_conflicts.Given as goal

abbrev pub invariant-loop-conflict : goal.invariant-loop-conflict
invariant-loop-conflict l =
    string_bytes l.text ≡ string_bytes l.initial.text ++ flat_map (conflict_line l.carriers) (take l.conflict-index l.conflicts)
