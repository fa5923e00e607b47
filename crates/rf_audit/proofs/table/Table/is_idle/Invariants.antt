use Rattle.std.proofs.Common.{◌≡◌, ◌<◌, ℕ, Some, slice_get}
use Rattle.rf_terms.specs.declared.kind.Kind.{Kind}
use Rattle.rf_terms.specs.Kinds.{kinds}
use Rattle.rf_log.specs.Case.{asked_by}
use Rattle.rf_show.specs.Case.{case_of}
use Rattle.rf_audit.proofs.table.Table.is_idle.Given as goal

abbrev pub invariant-loop-row : goal.invariant-loop-row
invariant-loop-row l = (c : ℕ) (kind : Kind) → c < l.row-index → slice_get kinds l.number ≡ Some kind → asked_by (case_of l.show) kind c ≡ 0
