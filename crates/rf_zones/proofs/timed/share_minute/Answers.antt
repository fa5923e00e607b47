use Rattle.std.proofs.Common.{map, sym, ◌∙◌}
use Rattle.rf_zones.proofs.MinuteLemmas.{shared_first, shared_later}
use Rattle.rf_zones.proofs.timed.share_minute.Goals as goal

pub returns-then-are_on : goal.returns-then-are_on
returns-then-are_on g c =
    c.if-are_on.true ∙ shared_first (map g.T.Timed.intervals c.args.all.now) c.args.set.now (sym c.are_on.ensures ∙ c.if-are_on.true)

pub returns-else-are_on : goal.returns-else-are_on
returns-else-are_on g c =
    c.share_start.ensures ∙ shared_later (map g.T.Timed.intervals c.args.all.now) c.args.set.now (sym c.are_on.ensures ∙ c.if-are_on.false)
