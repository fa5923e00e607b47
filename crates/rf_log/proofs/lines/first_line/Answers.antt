use Rattle.std.proofs.Common.{arith, sym}
use Rattle.std.proofs.lemmas.Grind.{common_steps}
use Rattle.rf_log.proofs.WordLemmas.{first_line, only_line}
use Rattle.rf_log.proofs.lines.first_line.Goals as goal

pub returns-in-None : goal.returns-in-None
returns-in-None c = only_line c.args.bytes.now (sym c.in-None.ensures) c.requires

pub returns-in-Some : goal.returns-in-Some
returns-in-Some c = grind (arith, common_steps, first_line c.args.bytes.now c.in-Some.feed (sym c.in-Some.ensures))
