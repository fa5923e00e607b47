use Rattle.std.proofs.Common.{◌≡◌, ◌++◌, drop}
use Rattle.rf_core.specs.Blocking.{carrier_lines}
use Rattle.rf_core.proofs.texts.add_each.Given as goal

abbrev pub invariant-loop-carrier : goal.invariant-loop-carrier
invariant-loop-carrier l = l.text.items ++ carrier_lines l.show l.word (drop l.carrier-index l.set) ≡ l.fn.text.items ++ carrier_lines l.show l.word l.set
