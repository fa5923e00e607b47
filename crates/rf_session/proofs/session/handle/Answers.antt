use Rattle.std.proofs.Common.{sym, ◌∙◌}
use Rattle.rf_base.specs.Script.{short}
use Rattle.rf_session.proofs.Runs.{quit_not_passed, Answered-passed}
use Rattle.rf_session.proofs.Serving.{Handles-went}
use Rattle.rf_session.proofs.session.handle.Goals as goal

pub returns-then-is_passed-clause-handles : goal.returns-then-is_passed-clause-handles
returns-then-is_passed-clause-handles g c =
    let passed = sym c.is_passed.ensures ∙ c.if-is_passed.true in
    (quit_not_passed c.args.line.now passed, Answered-passed _ c.args.machine.now _ (short c.args.line.now) passed)

pub returns-in-Ok-clause-handles : goal.returns-in-Ok-clause-handles
returns-in-Ok-clause-handles g c =
    let other = sym c.is_passed.ensures ∙ c.if-is_passed.false in
    Handles-went _ _ c.went.result _ _ _ _ (short c.args.line.now) c.in-Ok.refusal c.went.ensures other c.in-Ok.ensures.replied
