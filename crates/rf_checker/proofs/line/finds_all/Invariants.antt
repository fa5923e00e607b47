use Rattle.std.proofs.Common.{◌≡◌, take, true}
use Rattle.std.specs.List.{list_all}
use Rattle.rf_log.specs.Walk as walk
use Rattle.rf_checker.proofs.line.finds_all.Given as goal

abbrev pub invariant-loop-hint : goal.invariant-loop-hint
invariant-loop-hint l = list_all (walk.finds_line l.done) (take l.hint-index l.hints) ≡ true
