use Rattle.rf_base.specs.Script.{long}
use Rattle.std.proofs.Common.{rules}
use Rattle.rf_session.proofs.Runs.{Answered-none}
use Rattle.rf_session.proofs.Serving.{Turns-handled, Handles-long}
use Rattle.rf_session.proofs.session.take_turn.Goals as goal

pub returns-in-Line-clause-turns : goal.returns-in-Line-clause-turns
returns-in-Line-clause-turns g c =
    Turns-handled _ _ c.handle.result _ _ _ _ _ _ _ _ _ c.in-Line.ensures.told (rw c.line.ensures at c.handle.ensures.handles)

pub returns-in-LongLine-clause-turns : goal.returns-in-LongLine-clause-turns
returns-in-LongLine-clause-turns g c =
    Turns-handled _ _ c.refuse_long.result _ _ _ _ _ _ _ _ long c.in-LongLine.ensures.told (Handles-long _ _ c.refuse_long.result _ _ _ _ _ _ c.refuse_long.ensures.refuses)

pub returns-in-End-clause-turns : goal.returns-in-End-clause-turns
returns-in-End-clause-turns g c = (Answered-none _ _ _, search rules)

pub returns-in-TooLong-clause-turns : goal.returns-in-TooLong-clause-turns
returns-in-TooLong-clause-turns g c = (Answered-none _ _ _, c.in-TooLong.ensures.told)

pub returns-in-ReadFault-clause-turns : goal.returns-in-ReadFault-clause-turns
returns-in-ReadFault-clause-turns g c = (Answered-none _ _ _, c.in-ReadFault.ensures.told)
