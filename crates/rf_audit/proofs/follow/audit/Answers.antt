use Rattle.std.proofs.Common.{◌∙◌, List, subst}
use Rattle.std.proofs.lemmas.Result.{IfOk-weaker}
use Rattle.rf_log.specs.declared.line.LogLine.{LogLine}
use Rattle.rf_show.specs.Case.{case_of}
use Rattle.rf_checker.specs.Carriers.{lines_over}
use Rattle.rf_audit.specs.Audited.{IsAudited}
use Rattle.rf_audit.proofs.follow.audit.Goals as goal

pub returns-clause-started : goal.returns-clause-started
returns-clause-started c = λ n started.
    IfOk-weaker c.follow.result _ _ (λ found is. c.started_is_honest.ensures (case_of c.args.show.now) n (lines_over c.args.show.now c.args.log.now) found started
    (subst (λ (xs : List LogLine). IsAudited (case_of c.args.show.now) xs found) (c.as_slice.ensures.value ∙ c.in_ok-lines.ensures.lines) is)) c.follow.ensures
