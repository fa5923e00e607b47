use Rattle.std.proofs.Common.{◌≡◌, ◌∷◌, ◌++◌, [], false, take}
use Rattle.std.specs.List.{list_any}
use Rattle.rf_rules.specs.Tuples.{upto}
use Rattle.rf_rules.specs.Plans.{breaks_from}
use Rattle.rf_rules.proofs.search.Search.breaks_at_last.Given as goal

abbrev pub invariant-loop-carrier : goal.invariant-loop-carrier
invariant-loop-carrier l = list_any (λ c. breaks_from l.self.show.now l.self.ats.now l.self.kind (take l.depth l.roles ++ c ∷ []) 0) (upto l.carrier) ≡ false
