use Rattle.rf_propagate.specs.Laws.{same}
use Rattle.rf_nogoods.proofs.held_line.HeldLine.apply.Goals as goal

pub returns-then-is_open-clause-sound : goal.returns-then-is_open-clause-sound
returns-then-is_open-clause-sound c = λ case lines counts found. same
