use Rattle.std.proofs.Common.{◌≡◌, map, take, Some}
use Rattle.rf_solving.proofs.plan.ats_of.Given as goal

abbrev pub invariant-loop-khz : goal.invariant-loop-khz
invariant-loop-khz l = l.ats.items ≡ map Some (take l.khz-index l.freqs)
