use Rattle.rf_solving.specs.LogWriter.{HasRoles}
use Rattle.rf_solving.proofs.LinesLaws.{all_more, all_whole}
use Rattle.rf_solving.proofs.log_writer.have_roles.Goals as goal

pub loop-hint-preserved : goal.loop-hint-preserved
loop-hint-preserved c = all_more HasRoles c.args.hints.now c.loop-hint.hint-index _ c.loop-hint-test.true c.loop-hint.invariant c.has_roles.ensures

pub returns : goal.returns
returns c = all_whole HasRoles c.args.hints.now c.loop-hint.hint-index c.loop-hint-test.false c.loop-hint.invariant
