use Rattle.rf_show.proofs.CompanyLaws.{meeting_mutual}
use Rattle.rf_show.proofs.company.meeting_is_mutual.Goals as goal

pub returns : goal.returns
returns c = λ zones carriers. meeting_mutual zones carriers (c.coupling_is_mutual.ensures zones)
