use Rattle.std.proofs.Common.{◌∙◌, sym}
use Rattle.rf_problem.specs.Problem.{case_of}
use Rattle.rf_problem.proofs.CaseLaws.{count_is}
use Rattle.rf_props.proofs.InstanceLemmas.{instance_by}
use Rattle.rf_props.proofs.instance.is_instance.Goals as goal

pub returns : goal.returns
returns c =
    c.together_of.ensures
    ∙ sym (instance_by (case_of c.args.problem.now) c.args.kind c.args.roles.now c.requires.roles (count_is c.args.problem.now) c.requires.known
    (sym c.are_distinct.ensures ∙ c.if-not-are_distinct.false) (sym c.is_in_order.ensures ∙ c.if-not-is_in_order.false))
