use Rattle.std.proofs.Common.{[], refl, ap, ◌∙◌}
use Rattle.rf_terms.proofs.KindLaws.{every_kind}
use Rattle.rf_search.specs.Out.{none}
use Rattle.rf_search.proofs.UnderWay.{started_none}
use Rattle.rf_search.proofs.problem.solve.Goals as goal

pub returns-in_default-clause-memory : goal.returns-in_default-clause-memory
returns-in_default-clause-memory g c = λ is. ([], none, started_none _ _)

pub returns-in_default-trail_of-clause-memory : goal.returns-in_default-trail_of-clause-memory
returns-in_default-trail_of-clause-memory g c = λ is. ([], none, started_none _ _)

pub returns-in_default-advice_for-clause-memory : goal.returns-in_default-advice_for-clause-memory
returns-in_default-advice_for-clause-memory g c = λ is. ([], none, started_none _ _)

pub solve_by-requires-clause-alone : goal.solve_by-requires-clause-alone
solve_by-requires-clause-alone g c = ap (λ t. t.lines) (c.advice_for.ensures ∙ c.engine_with-engine.ensures.theory) ∙ c.in-Ok.ensures.lines

pub solve_by-requires-clause-whole : goal.solve_by-requires-clause-whole
solve_by-requires-clause-whole g c = record {
  every = record { each = every_kind };
  asked = refl;
}
