use Rattle.rf_text.proofs.CommandsBack.{command_back}
use Rattle.rf_text.proofs.writing.command_text.Goals as goal

pub returns-clause-back : goal.returns-clause-back
returns-clause-back c =
    rw (c.into_bytes.ensures.value, c.in_ok-write_command.ensures, c.new-text.ensures.bytes) (command_back c.args.command.now c.requires.0 c.requires.1)
