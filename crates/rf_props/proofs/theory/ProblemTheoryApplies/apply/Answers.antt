use Rattle.rf_problem.specs.Problem.{case_of}
use Rattle.rf_props.proofs.TheoryLemmas.{fit_found}
use Rattle.rf_props.proofs.theory.ProblemTheoryApplies.apply.Goals as goal

pub apply_line-requires : goal.apply_line-requires
apply_line-requires c =
    fit_found (case_of c.args.self.now.problem.now) c.args.self.now.lines _ c.in-Some.conds.now _ c.args.self.now.in_range c.in-Some.ensures c.requires
