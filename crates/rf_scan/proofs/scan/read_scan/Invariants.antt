use Rattle.rf_scan.proofs.ScanLemmas.{Progress}
use Rattle.rf_scan.proofs.scan.read_scan.Given as goal

abbrev pub invariant-loop-row : goal.invariant-loop-row
invariant-loop-row l = Progress l.fn.sep l.fn.bytes l.row-iterator.rdr l.row-iterator.left l.number l.points.items
