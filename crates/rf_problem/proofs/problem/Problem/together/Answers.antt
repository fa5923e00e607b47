use Rattle.std.proofs.Common.{◌∙◌, length, ap, ◌<◌}
use Rattle.std.proofs.lemmas.List.Elements.{All-same}
use Rattle.rf_log.specs.Case.{are_distinct}
use Rattle.rf_problem.proofs.MemberLemmas.{members_distinct, members_below, members_same}
use Rattle.rf_problem.proofs.problem.Problem.together.Goals as goal

pub together_of-requires-clause-in_range : goal.together_of-requires-clause-in_range
together_of-requires-clause-in_range c =
    All-same (λ x. x < length c.args.self.now.carriers) _ _ (members_same c.args.mask c.carriers.result (length c.args.self.now.carriers) _ c.carriers.ensures.counted c.members-len.ensures.value)
    (members_below c.args.mask (length c.args.self.now.carriers))

pub together_of-requires-clause-distinct : goal.together_of-requires-clause-distinct
together_of-requires-clause-distinct c =
    ap are_distinct c.members-len.ensures.value ∙ members_distinct c.args.mask c.carriers.result
