use Rattle.std.proofs.Common.{◌∙◌, ap}
use Rattle.rf_terms.specs.Kinds as table
use Rattle.rf_log.specs.Case.{asked}
use Rattle.rf_problem.proofs.CaseLaws.{member_is}
use Rattle.rf_problem.proofs.problem.Problem.asked.Goals as goal

pub returns : goal.returns
returns c =
    c.asked.ensures
    ∙ member_is (λ d. asked d (table.margin_of c.args.kind)) c.args.self.now c.self.inside.carriers.items c.args.carrier c.index.result.now
    (ap (λ p. p.carriers) c.self.view_is) c.requires c.index.ensures
