use Rattle.std.specs.List.{list_any}
use Rattle.rf_rules.specs.Tuples.{upto}
use Rattle.rf_spares.specs.Harms.{harms_role}
use Rattle.rf_spares.specs.Markings.{Gains}
use Rattle.rf_spares.specs.Searches.{site}
use Rattle.rf_spares.proofs.search.mark_kind.Given as goal

abbrev pub invariant-loop-role : goal.invariant-loop-role
invariant-loop-role l = Gains l.initial.marks l.marks (λ f. list_any (harms_role (site l.crowd) l.ats l.must l.kind f) (upto l.role))
