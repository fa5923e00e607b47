use Rattle.std.proofs.Common.{◌≡◌, map}
use Rattle.std.specs.List.{range_with_len}
use Rattle.rf_show.specs.Query.{is_allowed}
use Rattle.rf_active.proofs.carrier.flags.Given as goal

abbrev pub invariant-loop-k : goal.invariant-loop-k
invariant-loop-k l = l.flags.items ≡ map (is_allowed l.show l.carrier) (range_with_len 0 l.k)
