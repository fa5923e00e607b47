use Rattle.rf_rules.proofs.TallyLemmas.{from-same}
use Rattle.rf_rules.proofs.search.Search.valued_touched.Goals as goal

pub returns : goal.returns
returns c = from-same c.args.tally.now c.count_products.new.self c.touched_victims.new.tally _ c.count_products.ensures.shown c.count_products.ensures.total c.in_ok-touched_victims.ensures
