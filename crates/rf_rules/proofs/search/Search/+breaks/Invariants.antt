use Rattle.std.proofs.Common.{◌≡◌, ◌∷◌, ◌++◌, ◌-◌, [], false, take}
use Rattle.std.specs.List.{list_any}
use Rattle.rf_terms.specs.Kinds.{roles_of}
use Rattle.rf_rules.specs.Tuples.{upto}
use Rattle.rf_rules.specs.Plans.{breaks_from}
use Rattle.rf_rules.proofs.search.Search.+breaks.Given as goal

abbrev pub decreases-breaks : goal.decreases-breaks
decreases-breaks l = roles_of l.self.now.kind - l.depth

abbrev pub invariant-loop-carrier : goal.invariant-loop-carrier
invariant-loop-carrier l =
    list_any (λ c. breaks_from l.self.show.now l.self.ats.now l.self.kind (take l.depth l.roles ++ c ∷ []) (roles_of l.self.kind - l.depth - 1)) (upto l.carrier) ≡ false
