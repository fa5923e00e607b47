use Rattle.std.proofs.Common.{◌∙◌, ap}
use Rattle.rf_problem.proofs.CaseLaws.{member_is}
use Rattle.rf_problem.proofs.problem.Problem.freqs.Goals as goal

pub returns-clause-value : goal.returns-clause-value
returns-clause-value c =
    c.freqs.ensures.value
    ∙ member_is (λ d. d.freqs) c.args.self.now c.self.inside.carriers.items c.args.carrier c.index.result.now (ap (λ p. p.carriers) c.self.view_is) c.requires c.index.ensures
