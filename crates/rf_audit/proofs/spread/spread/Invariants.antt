use Rattle.std.proofs.Common.{◌≡◌, ◌<◌, ℕ, Some, slice_get}
use Rattle.rf_terms.specs.declared.kind.Kind.{Kind}
use Rattle.rf_terms.specs.Kinds.{kinds, roles_of}
use Rattle.rf_show.specs.Case.{case_of}
use Rattle.rf_audit.specs.Left.{Falls, IsClearedWith}
use Rattle.rf_audit.proofs.spread.spread.Given as goal

abbrev pub invariant-loop-number : goal.invariant-loop-number
invariant-loop-number l = record {
  falls : Falls (case_of l.show) l.fixed l.fn.sets.items l.sets.items;
  cleared : (i : ℕ) (kind : Kind) (place : ℕ) → i < l.number → slice_get kinds i ≡ Some kind → place < roles_of kind → IsClearedWith (case_of l.show) l.fixed l.sets.items l.x kind place;
}
