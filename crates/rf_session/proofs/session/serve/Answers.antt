use Rattle.std.proofs.Common.{arith}
use Rattle.rf_session.specs.Run.{Cut}
use Rattle.rf_session.proofs.Serving.{Serving-begin, Serving-more, ends_answered, ends_quit, ends_over, ends_read, ends_stopped}
use Rattle.rf_session.proofs.session.serve.Goals as goal

pub loop-refusal-init : goal.loop-refusal-init
loop-refusal-init g c = (Serving-begin _ _ _ _ _, c.requires, omega arith, omega arith)

pub loop-refusal-preserved : goal.loop-refusal-preserved
loop-refusal-preserved g c =
    let turn = c.in-Went.ensures in (
      Serving-more _ (Cut g.M.Machine.cuts) _ _ _ _ _ _ _ _ _ _ _ _ _ _ c.loop-refusal.invariant.0 turn.turns,
      turn.reads,
      omega (arith, turn.input_later),
      omega (arith, turn.output_later),
    )

pub returns-in-Quit-clause-session : goal.returns-in-Quit-clause-session
returns-in-Quit-clause-session g c =
    ends_answered _ (Cut g.M.Machine.cuts) _ _ _ _ c.args.reader.now c.take_turn.new.reader _ _ _ c.ended.result c.ended.ensures
    (ends_quit _ (Cut g.M.Machine.cuts) _ _ _ _ _ _ _ _ c.take_turn.new.reader _ _ _ _ _ c.loop-refusal.invariant.0 c.in-Quit.ensures.turns)

pub returns-in-Stopped-Write-clause-session : goal.returns-in-Stopped-Write-clause-session
returns-in-Stopped-Write-clause-session g c =
    ends_stopped _ (Cut g.M.Machine.cuts) _ _ c.take_turn.new.machine _ _ _ _ _ c.take_turn.new.reader _ _ _ _
    c.in-Stopped-Write.field-0 _ c.in-Stopped-Write.field-0-is c.loop-refusal.invariant.0 c.in-Stopped-Write.ensures.turns

pub returns-in-Stopped-Memory-clause-session : goal.returns-in-Stopped-Memory-clause-session
returns-in-Stopped-Memory-clause-session g c =
    ends_stopped _ (Cut g.M.Machine.cuts) _ _ c.take_turn.new.machine _ _ _ _ _ c.take_turn.new.reader _ _ _ _
    c.in-Stopped-Memory.field-0 _ c.in-Stopped-Memory.field-0-is c.loop-refusal.invariant.0 c.in-Stopped-Memory.ensures.turns

pub returns-in-TooLong-clause-session : goal.returns-in-TooLong-clause-session
returns-in-TooLong-clause-session g c =
    ends_over _ (Cut g.M.Machine.cuts) _ _ _ _ _ _ _ _ c.take_turn.new.reader _ _ _ _ c.loop-refusal.invariant.0 c.in-TooLong.ensures.turns

pub returns-in-ReadFault-clause-session : goal.returns-in-ReadFault-clause-session
returns-in-ReadFault-clause-session g c =
    ends_read _ (Cut g.M.Machine.cuts) _ _ _ _ _ _ _ _ c.take_turn.new.reader _ _ _ _ c.loop-refusal.invariant.0 c.in-ReadFault.ensures.turns
