use Rattle.std.proofs.Common.{List}
use Rattle.rf_log.specs.declared.cond.Cond.{Cond}
use Rattle.rf_show.specs.Case.{case_of}
use Rattle.rf_audit.specs.Left.{AreKnown, AreSized, IsLeft}
use Rattle.rf_audit.proofs.Free.{free_count}
use Rattle.rf_audit.proofs.closing.close.Given as goal

abbrev pub invariant-rounds : goal.invariant-rounds
invariant-rounds l = record {
  sized : AreSized (case_of l.show) l.left.sets.items;
  known : AreKnown (case_of l.show) l.left.fixed.items;
  left : (path : List Cond) → IsLeft (case_of l.show) path l.fn.left.fixed.items l.fn.left.sets.items → IsLeft (case_of l.show) path l.left.fixed.items l.left.sets.items;
}

abbrev pub decreases-rounds : goal.decreases-rounds
decreases-rounds l = free_count l.left.fixed.items
