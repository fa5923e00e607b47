use Rattle.std.proofs.Common.{arith}
use Rattle.rf_report.specs.Csv.{conflict_fields, row_of}
use Rattle.rf_report.proofs.CsvLemmas.{gains_all, gains_more}
use Rattle.rf_report.proofs.csv_report.write_rows.Goals as goal

pub loop-conflict-preserved : goal.loop-conflict-preserved
loop-conflict-preserved c =
    let row = c.in_ok-row.ensures in
    let wrote = c.in_ok-write_row.ensures in
    gains_more c.args.writer.now c.loop-conflict.writer c.write_row.new.writer (λ conflict. row_of (conflict_fields c.args.carriers.now conflict)) c.args.conflicts.now
    c.loop-conflict.conflict-index _ c.loop-conflict-test.true c.loop-conflict.invariant (rw row at wrote)

pub returns : goal.returns
returns c =
    gains_all c.args.writer.now c.loop-conflict.writer (λ conflict. row_of (conflict_fields c.args.carriers.now conflict)) c.args.conflicts.now
    c.loop-conflict.conflict-index (omega (arith, c.loop-conflict-test.false)) c.loop-conflict.invariant
