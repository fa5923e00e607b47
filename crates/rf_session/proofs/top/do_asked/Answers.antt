use Rattle.std.proofs.Common.{◌≡◌, ◌∙◌, Some, ap, ap₂, sym}
use Rattle.rf_words.specs.declared.asked.Asked.TheVariants.{Audit, Check, Demo}
use Rattle.rf_words.specs.declared.words.WordsFault.{WordsFault}
use Rattle.rf_words.specs.declared.words.WordsFault.TheVariants.{Usage, Memory}
use Rattle.rf_session.proofs.Ending.{Ends-audit, Ends-check, Ends-demo, Ends-session, Ends-unread, Ends-usage}
use Rattle.rf_session.proofs.top.do_asked.Goals as goal

pub returns-in-Ok-Session-clause-ends : goal.returns-in-Ok-Session-clause-ends
returns-in-Ok-Session-clause-ends g c =
    let session = c.session.ensures in
    Ends-session _ c.session.result _ _ (c.in-Ok-Session.ensures.asked ∙ ap Some c.in-Ok-Session.field-0-is) session.ends session.read session.write
    session.no_words session.no_shelf

pub returns-in-Ok-Check-clause-ends : goal.returns-in-Ok-Check-clause-ends
returns-in-Ok-Check-clause-ends g c =
    let asked = c.in-Ok-Check.ensures.asked ∙ ap Some (c.in-Ok-Check.field-0-is ∙ ap₂ Check (sym c.as_str.ensures) (sym c.as_str-in-Ok-Check.ensures)) in
    Ends-check _ c.check.result _ _ _ _ asked c.check.ensures.checks c.check.ensures.write

pub returns-in-Ok-Audit-clause-ends : goal.returns-in-Ok-Audit-clause-ends
returns-in-Ok-Audit-clause-ends g c =
    let asked = c.in-Ok-Audit.ensures.asked ∙ ap Some (c.in-Ok-Audit.field-0-is ∙ ap₂ Audit (sym c.as_str-in-Ok-Audit.ensures) (sym c.as_str-in-Ok-Audit-2.ensures)) in
    Ends-audit _ c.check-in-Ok-Audit.result _ _ _ _ asked c.check-in-Ok-Audit.ensures.checks c.check-in-Ok-Audit.ensures.write

pub returns-in-Ok-Demo-clause-ends : goal.returns-in-Ok-Demo-clause-ends
returns-in-Ok-Demo-clause-ends g c =
    let asked = c.in-Ok-Demo.ensures.asked ∙ ap Some (c.in-Ok-Demo.field-0-is ∙ ap₂ Demo (sym c.in-Ok-Demo.seed-is) (sym c.in-Ok-Demo.count-is)) in
    Ends-demo _ c.demonstrate.result _ _ _ _ asked c.demonstrate.ensures.ends c.demonstrate.ensures.fault

pub returns-in-Err-Usage-clause-ends : goal.returns-in-Err-Usage-clause-ends
returns-in-Err-Usage-clause-ends g c = Ends-usage _ c.refuse_words.result _ _
    (c.in-Err-Usage.ensures.usage (λ is. let no : ◌≡◌ {A = WordsFault} Usage Memory = sym c.in-Err-Usage.field-0-is ∙ is in cc))
    c.refuse_words.ensures.usage c.refuse_words.ensures.fault

pub returns-in-Err-Memory-clause-ends : goal.returns-in-Err-Memory-clause-ends
returns-in-Err-Memory-clause-ends g c = Ends-unread _ _
