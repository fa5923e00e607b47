use Rattle.std.proofs.Common.{take}
use Rattle.std.specs.List.{list_any}
use Rattle.rf_spares.specs.Harms.{harms_kind}
use Rattle.rf_spares.specs.Markings.{Gains}
use Rattle.rf_spares.specs.Searches.{site}
use Rattle.rf_spares.proofs.search.mark_all.Given as goal

abbrev pub invariant-loop-kind : goal.invariant-loop-kind
invariant-loop-kind l = Gains l.initial.marks l.marks (λ f. list_any (harms_kind (site l.crowd) l.ats l.must f) (take l.kind-index l.kind-items))
