use Rattle.std.proofs.Common.{◌≡◌, take, filter}
use Rattle.rf_rules.specs.Renewed.{is_kept}
use Rattle.rf_rules.proofs.renewed.kept_of.Given as goal

abbrev pub invariant-loop-conflict : goal.invariant-loop-conflict
invariant-loop-conflict l = l.kept.items ≡ filter (is_kept l.kind l.mask) (take l.conflict-index l.before)
