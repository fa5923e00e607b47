use Rattle.std.proofs.Common.{◌∙◌, ap, reverse}
use Rattle.rf_domain.specs.Sets.{sizes}
use Rattle.rf_trail.specs.Trace.{has_of}
use Rattle.rf_trail.proofs.PieceLemmas.{agree_top}
use Rattle.rf_trail.proofs.trail.Trail.domains.Goals as goal

pub returns-clause-has : goal.returns-clause-has
returns-clause-has c =
    c.self.invariant.made.left ∙ agree_top (sizes c.self.inside.domains) (reverse c.self.inside.steps.items) (reverse c.self.inside.pieces.items) c.self.invariant.agree
    ∙ ap (λ t. has_of t.counts t.entries) c.self.view_is
