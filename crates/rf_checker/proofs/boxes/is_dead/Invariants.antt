use Rattle.std.proofs.Common.{◌≡◌, true, not}
use Rattle.rf_log.specs.Box.{each_below, has_none}
use Rattle.rf_show.specs.Case.{case_of}
use Rattle.rf_checker.specs.Boxes.{box_in}
use Rattle.rf_checker.proofs.boxes.is_dead.Given as goal

abbrev pub invariant-loop-set : goal.invariant-loop-set
invariant-loop-set l = each_below l.set-index (λ c. not (has_none (case_of l.show) (box_in l.sets) c)) ≡ true
