use Rattle.std.proofs.Common.{◌∙◌, ap, length}
use Rattle.rf_problem.proofs.CaseLaws.{member_is}
use Rattle.rf_problem.proofs.problem.Problem.flags.Goals as goal

pub returns-clause-value : goal.returns-clause-value
returns-clause-value c =
    c.allowed.ensures.value
    ∙ member_is (λ d. d.allowed) c.args.self.now c.self.inside.carriers.items c.args.carrier c.index.result.now (ap (λ p. p.carriers) c.self.view_is) c.requires c.index.ensures

pub returns-clause-count : goal.returns-clause-count
returns-clause-count c =
    c.allowed.ensures.flagged
    ∙ member_is (λ d. length d.freqs) c.args.self.now c.self.inside.carriers.items c.args.carrier c.index.result.now (ap (λ p. p.carriers) c.self.view_is) c.requires c.index.ensures
