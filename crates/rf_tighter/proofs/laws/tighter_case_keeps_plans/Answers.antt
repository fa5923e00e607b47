use Rattle.rf_tighter.proofs.TighterLemmas.{tighter-plan}
use Rattle.rf_tighter.proofs.laws.tighter_case_keeps_plans.Goals as goal

pub returns : goal.returns
returns c = λ a b plan tight is. tighter-plan a b plan tight is
