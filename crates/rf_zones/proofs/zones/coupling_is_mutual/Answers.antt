use Rattle.rf_zones.proofs.StandLaws.{coupling_either, coupling_own}
use Rattle.rf_zones.proofs.zones.coupling_is_mutual.Goals as goal

pub returns : goal.returns
returns c = λ zones. record { both = coupling_either zones; own = coupling_own zones }
