use Rattle.std.proofs.Common.{take}
use Rattle.std.specs.List.{flat_map}
use Rattle.rf_rules.specs.Tallies.{Extends}
use Rattle.rf_rules.specs.Analyses.{conflicts_of}
use Rattle.rf_rules.proofs.analysis.add_broken.Given as goal

abbrev pub invariant-loop-kind : goal.invariant-loop-kind
invariant-loop-kind l = Extends l.initial.tally l.tally (flat_map (conflicts_of l.company.show.now l.ats) (take l.kind-index l.kind-items))
