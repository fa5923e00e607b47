use Rattle.std.proofs.Common.{take, All}
use Rattle.rf_solving.specs.LogWriter.{HasRoles}
use Rattle.rf_solving.proofs.log_writer.have_roles.Given as goal

abbrev pub invariant-loop-hint : goal.invariant-loop-hint
invariant-loop-hint l = All HasRoles (take l.hint-index l.hints)
