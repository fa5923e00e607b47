use Rattle.rf_problem.specs.Problem.{case_of}
use Rattle.rf_props.proofs.CountLemmas.{kept_push}
use Rattle.rf_props.proofs.TheoryLemmas.{grown_err}
use Rattle.rf_props.proofs.theory.ProblemTheoryGrows.grow.Goals as goal

pub invariant_of-self : goal.invariant_of-self
invariant_of-self c =
    let t = c.args.self.now in
    let kept = kept_push (case_of t.problem.now) t.lines c.push.new.self c.args.line c.args.conds.now t.rising t.in_range c.requires.rising c.requires.in_range c.push.result c.push.ensures.ok c.push.ensures.err in
    record { counted = t.counted; rising = kept.0; in_range = kept.1 }

pub returns-clause-err : goal.returns-clause-err
returns-clause-err c = grown_err c.args.self.now c.push.new.self c.push.result c.push.ensures.err _ _ _
