use Rattle.std.proofs.Common.{◌∙◌, sym, ap, Bool, ◌&&◌}
use Rattle.std.proofs.lemmas.Bool.{and_from}
use Rattle.rf_log.specs.Case.{are_together}
use Rattle.rf_show.specs.Case.{case_of}
use Rattle.rf_checker.proofs.RuleLemmas.{instance_is}
use Rattle.rf_checker.proofs.rule.is_instance.Goals as goal

pub returns : goal.returns
returns c = c.are_together.ensures ∙ sym (instance_is (case_of c.args.show.now) c.args.kind c.args.roles.now c.requires.full c.requires.known
    ∙ ap (λ (b : Bool). b && are_together (case_of c.args.show.now) c.args.roles.now)
    (and_from _ _ (sym c.are_distinct.ensures ∙ c.if-not-are_distinct.false) (sym c.is_in_order.ensures ∙ c.if-not-is_in_order.false)))
