use Rattle.std.proofs.Common.{length, ◌-◌}
use Rattle.rf_props.proofs.BanLemmas.{LooksOver}
use Rattle.rf_props.proofs.bans.next_flag.Given as goal

abbrev pub invariant-loop-at : goal.invariant-loop-at
invariant-loop-at l = LooksOver l.flags l.from l.wanted l.at

abbrev pub decreases-loop-at : goal.decreases-loop-at
decreases-loop-at l = length l.flags - l.at
