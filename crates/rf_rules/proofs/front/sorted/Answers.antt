use Rattle.rf_rules.proofs.FrontLemmas.{sorted-upto}
use Rattle.rf_rules.proofs.front.sorted.Goals as goal

pub returns : goal.returns
returns c = λ lo hi all h e.
    sorted-upto lo hi c.args.end all c.args.found.now c.in_ok-some.some.items c.sort_by_size.new.products.items c.in_ok-some.ensures h e c.in_ok-sort_by_size.ensures.sorted
    c.in_ok-sort_by_size.ensures.stable c.in_ok-sort_by_size.ensures.same
