use Rattle.std.proofs.Common.{◌∙◌}
use Rattle.rf_show.specs.Case.{case_of}
use Rattle.rf_checker.proofs.EarlierLemmas.{empty_box}
use Rattle.rf_checker.proofs.earlier.apply_earlier.Goals as goal

pub returns-in-Some-None-clause-box_for : goal.returns-in-Some-None-clause-box_for
returns-in-Some-None-clause-box_for c = empty_box (case_of c.args.show.now) c.clear.new.sets (c.clear.auto.sets ∙ c.requires.box_for.full) c.clear.ensures
