use Rattle.std.proofs.Common.{◌≡◌, take, true}
use Rattle.std.specs.List.{list_all}
use Rattle.rf_log.specs.Walk.{fits_hint}
use Rattle.rf_show.specs.Case.{case_of}
use Rattle.rf_checker.proofs.line.hints_fit.Given as goal

abbrev pub invariant-loop-hint : goal.invariant-loop-hint
invariant-loop-hint l = list_all (fits_hint (case_of l.show)) (take l.hint-index l.hints) ≡ true
