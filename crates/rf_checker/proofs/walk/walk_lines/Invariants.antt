use Rattle.std.proofs.Common.{◌≡◌, ◌≤◌, take, drop, reverse, Some, None, if◌then◌else◌}
use Rattle.std.specs.List.{count_by}
use Rattle.rf_log.specs.Walk.{walk, verdict_of, is_branch}
use Rattle.rf_show.specs.Case.{case_of}
use Rattle.rf_checker.specs.Lines.{LinesFit, TreeFits}
use Rattle.rf_checker.proofs.walk.walk_lines.Given as goal

abbrev pub invariant-loop-i : goal.invariant-loop-i
invariant-loop-i l = record {
  same : walk (case_of l.show) (take l.i l.lines) (if l.closed then None else Some (reverse l.path.items)) (drop l.i l.lines) ≡ verdict_of (case_of l.show) l.lines;
  lines : LinesFit (case_of l.show) (take l.i l.lines);
  tree : TreeFits (case_of l.show) (if l.closed then None else Some (reverse l.path.items));
  count : l.branchings ≡ count_by is_branch (take l.i l.lines);
  few : l.branchings ≤ l.i;
}
