use Rattle.std.proofs.Common.{◌≡◌, take, true}
use Rattle.std.specs.List.{list_all}
use Rattle.rf_log.specs.Box as box
use Rattle.rf_show.specs.Case.{case_of}
use Rattle.rf_checker.specs.Boxes.{box_in}
use Rattle.rf_checker.proofs.walk.all_throughout.Given as goal

abbrev pub invariant-loop-cond : goal.invariant-loop-cond
invariant-loop-cond l = list_all (box.holds_throughout (case_of l.show) (box_in l.sets)) (take l.cond-index l.conds) ≡ true
