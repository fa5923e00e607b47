use Rattle.std.proofs.Common.{rules, append_assoc}
use Rattle.rf_demo.proofs.line.time_line.Goals as goal

pub returns : goal.returns
returns c = search (rules, append_assoc)
