use Rattle.std.proofs.Common.{◌≡◌, ◌++◌, ◌-◌, map, replicate}
use Rattle.rf_show.specs.Query.{asked}
use Rattle.rf_rules.specs.Tuples.{upto}
use Rattle.rf_spares.specs.Crowds.{asked_at}
use Rattle.rf_spares.proofs.crowd.Crowd.needs.Given as goal

abbrev pub invariant-loop-carrier : goal.invariant-loop-carrier
invariant-loop-carrier l = l.needs ≡ map (asked l.self.show.now l.kind) (upto l.carrier) ++ replicate (96 - l.carrier) (asked_at l.self.show.now l.self.profile l.kind)
