use Rattle.std.proofs.Common.{arith, sym}
use Rattle.std.proofs.lemmas.Grind.{common_steps}
use Rattle.rf_base.specs.Words.{is_space}
use Rattle.rf_log.proofs.words.first_part.Goals as goal
use Rattle.rf_base.proofs.ListLaws.{first_part, only_part}

pub returns-in-None : goal.returns-in-None
returns-in-None c = only_part is_space c.args.line.now (sym c.in-None.ensures)

pub returns-in-Some : goal.returns-in-Some
returns-in-Some c = grind (arith, common_steps, first_part is_space c.args.line.now c.in-Some.space (sym c.in-Some.ensures))
