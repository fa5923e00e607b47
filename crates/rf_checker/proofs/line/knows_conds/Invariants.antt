use Rattle.std.proofs.Common.{◌≡◌, take, true}
use Rattle.std.specs.List.{list_all}
use Rattle.rf_log.specs.Walk as walk
use Rattle.rf_show.specs.Case.{case_of}
use Rattle.rf_checker.proofs.line.knows_conds.Given as goal

abbrev pub invariant-loop-cond : goal.invariant-loop-cond
invariant-loop-cond l = list_all (walk.knows_cond (case_of l.show)) (take l.cond-index l.conds) ≡ true
