use Rattle.std.proofs.Common.{◌+◌, ◌-◌, ◌++◌, ◌∷◌, [], take}
use Rattle.std.specs.List.{list_any}
use Rattle.rf_terms.specs.Kinds.{roles_of}
use Rattle.rf_rules.specs.Tuples.{upto}
use Rattle.rf_spares.specs.Harms.{harms_from}
use Rattle.rf_spares.specs.Markings.{Gains}
use Rattle.rf_spares.specs.Searches.{site_of}
use Rattle.rf_spares.proofs.search.Search.+extend.Given as goal

abbrev pub decreases-extend : goal.decreases-extend
decreases-extend l = roles_of l.self.now.kind - l.depth

abbrev pub invariant-loop-carrier : goal.invariant-loop-carrier
invariant-loop-carrier l = Gains l.initial.marks l.marks
    (λ f. list_any (λ c. harms_from (site_of l.self) l.self.ats.now l.self.must l.self.kind l.self.role (take l.depth l.others ++ c ∷ []) (roles_of l.self.kind - 1 - (l.depth + 1)) f)
    (upto l.carrier))
