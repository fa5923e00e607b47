use Rattle.rf_text.proofs.CommandsBack.{line_askable}
use Rattle.rf_text.proofs.command.read_command.Goals as goal

pub returns-in-Some-clause-edit : goal.returns-in-Some-clause-edit
returns-in-Some-clause-edit c = line_askable c.args.line.now c.in-Some.command c.in-Some.ensures
