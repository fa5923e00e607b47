use Rattle.std.proofs.Common.{subst, length, take, List, ℕ, MatchOption}
use Rattle.rf_log.specs.Box.{Box}
use Rattle.rf_problem.specs.Problem.{case_of}
use Rattle.rf_props.specs.Sweeps.{AreSingle, HaveMany}
use Rattle.rf_props.proofs.single.singles.Goals as goal

pub returns : goal.returns
returns c =
    let case = case_of c.args.problem.now in
    let carriers = c.args.carriers.now in
    subst (λ (b : Box). MatchOption c.singles_in.result (HaveMany case b carriers) (λ (fs : List ℕ). AreSingle case b carriers (take (length carriers) fs))) c.domains.ensures.has c.singles_in.ensures
