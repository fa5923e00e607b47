use Rattle.rf_report.proofs.csv_report.write_columns.Goals as goal

pub returns : goal.returns
returns c = rw c.in_ok-row.ensures at c.write_row.ensures
