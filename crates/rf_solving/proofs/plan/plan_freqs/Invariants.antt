use Rattle.std.proofs.Common.{◌≡◌, map, slice_index}
use Rattle.std.specs.List.{range_with_len}
use Rattle.rf_log.specs.Case.{freq_of}
use Rattle.rf_show.specs.Case.{case_of}
use Rattle.rf_solving.proofs.plan.plan_freqs.Given as goal

abbrev pub invariant-loop-carrier : goal.invariant-loop-carrier
invariant-loop-carrier l = l.freqs.items ≡ map (λ c. freq_of (case_of l.show) c (slice_index l.plan c)) (range_with_len 0 l.carrier)
