use Rattle.std.proofs.Common.{◌≡◌, drop}
use Rattle.rf_log.specs.Hints.{after_hints}
use Rattle.rf_show.specs.Case.{case_of}
use Rattle.rf_checker.specs.Boxes.{box_in, IsBoxFor}
use Rattle.rf_checker.proofs.nogood.apply_hints.Given as goal

abbrev pub invariant-loop-hint : goal.invariant-loop-hint
invariant-loop-hint l = record {
  value : after_hints (case_of l.show) l.done (box_in l.sets) (drop l.hint-index l.hints) ≡ after_hints (case_of l.show) l.done (box_in l.fn.sets) l.hints;
  box_for : IsBoxFor (case_of l.show) l.sets;
}
