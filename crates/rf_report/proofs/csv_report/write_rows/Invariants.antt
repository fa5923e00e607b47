use Rattle.std.proofs.Common.{take}
use Rattle.std.specs.List.{flat_map}
use Rattle.rf_report.specs.Csv.{Gains, conflict_fields, row_of}
use Rattle.rf_report.proofs.csv_report.write_rows.Given as goal

abbrev pub invariant-loop-conflict : goal.invariant-loop-conflict
invariant-loop-conflict l =
    Gains l.initial.writer l.writer (flat_map (λ conflict. row_of (conflict_fields l.carriers conflict)) (take l.conflict-index l.conflicts))
