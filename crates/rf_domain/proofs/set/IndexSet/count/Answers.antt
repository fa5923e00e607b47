use Rattle.std.proofs.Common.{◌∙◌, ap, length}
use Rattle.rf_domain.specs.Indices.{flag, count_below}
use Rattle.rf_domain.proofs.Lowest.{flags_count}
use Rattle.rf_domain.proofs.set.IndexSet.count.Goals as goal

pub returns : goal.returns
returns c =
    c.self.invariant.counted ∙ flags_count c.self.inside.size c.self.inside.words.items c.self.invariant.padded
    ∙ ap (λ set. count_below (flag set) (length set)) c.self.view_is
