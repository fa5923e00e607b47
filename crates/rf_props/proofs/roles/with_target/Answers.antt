use Rattle.std.proofs.Common.{◌∙◌, arith, take_all, length-drop}
use Rattle.rf_props.proofs.RoleLemmas.{written_is}
use Rattle.rf_props.proofs.roles.with_target.Goals as goal

pub returns : goal.returns
returns c =
    written_is c.args.others.now c.copy_from_slice.new.self c.copy_from_slice-2.new.self c.args.place c.args.target c.requires.place c.requires.others
    c.copy_from_slice.ensures.after (c.copy_from_slice-2.ensures.after ∙ take_all _ _ (omega (arith, length-drop c.args.place c.args.others.now)))
