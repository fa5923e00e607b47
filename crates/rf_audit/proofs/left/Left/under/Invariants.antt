use Rattle.std.proofs.Common.{reverse, take}
use Rattle.rf_show.specs.Case.{case_of}
use Rattle.rf_audit.specs.Left.{IsLeft}
use Rattle.rf_audit.proofs.left.Left.under.Given as goal

abbrev pub invariant-loop-cond : goal.invariant-loop-cond
invariant-loop-cond l = IsLeft (case_of l.show) (reverse (take l.cond-index l.path)) l.left.fixed.items l.left.sets.items
