use Rattle.std.proofs.Common.{take}
use Rattle.std.specs.List.{flat_map}
use Rattle.rf_rules.specs.Tallies.{Extends}
use Rattle.rf_rules.specs.Renewed.{renewed_of}
use Rattle.rf_rules.proofs.renewed.add_kinds.Given as goal

abbrev pub invariant-loop-kind : goal.invariant-loop-kind
invariant-loop-kind l = Extends l.initial.tally l.tally (flat_map (renewed_of l.mask l.before l.company.show.now) (take l.kind-index l.kind-items))
