use Rattle.std.proofs.Common.{◌≡◌, ◌≤◌, take, drop, reverse, true, Some, None, if◌then◌else◌}
use Rattle.std.specs.List.{count_by}
use Rattle.rf_log.specs.Walk.{walk, is_branch}
use Rattle.rf_show.specs.Case.{case_of}
use Rattle.rf_audit.specs.Audited.{Finds, IsAudited}
use Rattle.rf_audit.specs.Left.{IsLeft}
use Rattle.rf_audit.specs.declared.answer.Audit.{Audit}
use Rattle.rf_audit.proofs.follow.follow.Given as goal

abbrev pub invariant-loop-i : goal.invariant-loop-i
invariant-loop-i l = record {
  same : (found : Audit) → Finds (case_of l.show) (take l.i l.lines) (if l.open then Some (reverse l.path.items) else None) (drop l.i l.lines) found → IsAudited (case_of l.show) l.lines found;
  walked : walk (case_of l.show) (take l.i l.lines) (if l.open then Some (reverse l.path.items) else None) (drop l.i l.lines) ≡ l.verdict;
  left : l.open ≡ true → IsLeft (case_of l.show) (reverse l.path.items) l.left.fixed.items l.left.sets.items;
  count : l.branchings ≡ count_by is_branch (take l.i l.lines);
  few : l.branchings ≤ l.i;
}
