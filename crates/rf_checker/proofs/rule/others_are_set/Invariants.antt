use Rattle.std.proofs.Common.{◌≡◌, ◌==◌, ◌||◌, take, true, is_some}
use Rattle.std.specs.List.{list_all}
use Rattle.rf_log.specs.Box as box
use Rattle.rf_show.specs.Case.{case_of}
use Rattle.rf_checker.specs.Boxes.{box_in}
use Rattle.rf_checker.proofs.rule.others_are_set.Given as goal

abbrev pub invariant-loop-role : goal.invariant-loop-role
invariant-loop-role l = list_all (λ c. (c == l.target) || is_some (box.only_index (case_of l.show) (box_in l.sets) c)) (take l.role-index l.roles) ≡ true
