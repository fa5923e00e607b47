use Rattle.std.proofs.Common.{◌≡◌, true, slice_index}
use Rattle.std.specs.List.{list_all}
use Rattle.rf_show.specs.Query.{is_allowed}
use Rattle.rf_rules.specs.Tuples.{upto}
use Rattle.rf_rules.proofs.plan.are_allowed.Given as goal

abbrev pub invariant-loop-carrier : goal.invariant-loop-carrier
invariant-loop-carrier l = list_all (λ c. is_allowed l.show c (slice_index l.plan c)) (upto l.carrier) ≡ true
