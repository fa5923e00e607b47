use Rattle.std.specs.Prelude.{[], ◌∷◌, codes, decimal, length}
use Rattle.std.specs.List.{flat_map}
use Rattle.rf_report.specs.Csv.{columns, conflict_fields, row_of}
use Rattle.rf_base.specs.Lines.{line_of}
use Rattle.rf_report.proofs.CsvLemmas.{gains_both, holds_first, holds_last}
use Rattle.rf_report.proofs.csv_report.csv_text.Goals as goal

pub returns-in-Ok : goal.returns-in-Ok
returns-in-Ok c =
    let from = c.from_writer-writer.ensures in
    let conflicts = c.as_slice-conflicts.ensures in
    let line = line_of (codes "csv" ∷ decimal (length c.args.analysis.now.shown) ∷ []) in
    let rows = flat_map (λ conflict. row_of (conflict_fields c.args.show.now.carriers conflict)) c.args.analysis.now.shown in
    let counted = c.in_ok-count_line.ensures in
    let wrote = c.in_ok-write_rows.ensures in
    let first = holds_first c.from_writer-writer.result c.in_ok-count_line.field-0 line from.wtr from.empty from.cfg from.fields from.wrote (rw conflicts at counted) in
    let all = gains_both c.from_writer-writer.result c.write_columns.new.writer c.write_rows.new.writer (row_of columns) rows
    c.in_ok-write_columns.ensures (rw (conflicts, c.carriers.ensures.value) at wrote) line first in
    holds_last c.write_rows.new.writer c.in-Ok.text.items _ c.in-Ok.ensures.ok all
