use Rattle.std.proofs.Common.{◌∙◌, sym}
use Rattle.rf_show.specs.Case.{case_of}
use Rattle.rf_checker.specs.Boxes.{box_in}
use Rattle.rf_checker.proofs.RuleLemmas.{ruled_each}
use Rattle.rf_checker.proofs.rule.is_ruled_out.Goals as goal

pub returns : goal.returns
returns c =
    ruled_each (case_of c.args.show.now) (box_in c.args.sets.now) c.args.target c.args.kind c.args.roles.now c.freqs_with-freqs.result c.args.place c.args.lo c.args.hi c.all_break.result
    c.requires.place c.requires.target c.requires.index (sym c.is_instance.ensures ∙ c.if-not-is_instance.false) (sym c.others_are_set.ensures ∙ c.if-not-others_are_set.false)
    c.freqs_with-freqs.ensures.value c.all_break.ensures
