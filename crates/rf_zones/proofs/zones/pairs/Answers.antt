use Rattle.std.proofs.Common.{ap, ◌∙◌, ◌*◌, ◌/◌}
use Rattle.rf_zones.proofs.PairLaws.{pairs_is}
use Rattle.rf_zones.proofs.zones.pairs.Goals as goal

pub returns-clause-value : goal.returns-clause-value
returns-clause-value c = ap (λ n. c.args.count * n / 2) c.saturating_sub.ensures ∙ pairs_is c.args.count
