use Rattle.std.proofs.Common.{◌≡◌, take, true}
use Rattle.std.specs.List.{list_all}
use Rattle.rf_log.specs.Walk as walk
use Rattle.rf_show.specs.Case.{case_of}
use Rattle.rf_checker.proofs.line.knows_hints.Given as goal

abbrev pub invariant-loop-hint : goal.invariant-loop-hint
invariant-loop-hint l = list_all (walk.knows_hint (case_of l.show)) (take l.hint-index l.hints) ≡ true
