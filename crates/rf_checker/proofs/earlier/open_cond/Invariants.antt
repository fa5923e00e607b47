use Rattle.std.proofs.Common.{◌≡◌, take, IfSome}
use Rattle.std.specs.Option.{option_to_list}
use Rattle.rf_log.specs.Hints.{left_open}
use Rattle.rf_show.specs.Case.{case_of}
use Rattle.rf_checker.specs.Boxes.{box_in, Fits}
use Rattle.rf_checker.proofs.earlier.open_cond.Given as goal

abbrev pub invariant-loop-cond : goal.invariant-loop-cond
invariant-loop-cond l = record {
  value : left_open (case_of l.show) (box_in l.sets) (take l.cond-index l.conds) ≡ option_to_list l.found;
  fits : IfSome l.found (λ cond. Fits (case_of l.show) cond);
}
