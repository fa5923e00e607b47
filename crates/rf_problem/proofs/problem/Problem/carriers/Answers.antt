use Rattle.std.proofs.Common.{length, ap, arith}
use Rattle.rf_problem.proofs.CaseLaws.{count_is}
use Rattle.rf_problem.proofs.problem.Problem.carriers.Goals as goal

pub returns-clause-value : goal.returns-clause-value
returns-clause-value c = omega (arith, count_is c.args.self.now, ap (λ p. length p.carriers) c.self.view_is)
