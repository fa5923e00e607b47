use Rattle.rf_show.specs.Query.{meet_at}
use Rattle.rf_show.proofs.CompanyLaws.{none-passed}
use Rattle.rf_show.proofs.show.Show.meeters.Goals as goal

pub loop-b-init : goal.loop-b-init
loop-b-init c = λ k. none-passed c.none-meeters.result (meet_at c.args.size c.args.self.now.zones c.args.self.now.carriers c.args.carrier) k (c.none-meeters.ensures k)
