use Rattle.std.proofs.Common.{None, Ok, Err, ap, refl, subst, sym}
use Rattle.rf_session.specs.declared.check.CheckFault.TheVariants.{Shelf}
use Rattle.rf_session.specs.declared.finding.Finding.TheVariants.{LogLarge}
use Rattle.rf_session.specs.Checked.{FindsOn, judging_of}
use Rattle.rf_session.specs.Fetches.{got_of}
use Rattle.rf_session.proofs.Checking.{FoundInLog-fetched, FoundInLog-judged}
use Rattle.rf_session.proofs.check.find_in_log.Goals as goal

pub returns-in-Ok-Found-clause-found : goal.returns-in-Ok-Found-clause-found
returns-in-Ok-Found-clause-found g c =
    FoundInLog-judged (judging_of c.args.judge) c.find_in_text.result c.args.show.now c.args.log.now c.in-Ok-Found.bytes.items c.as_slice.result.now _ _ _
    (ap got_of c.in-Ok-Found.field-0-is) c.as_slice.ensures.value (c.in-Ok-Found.ensures.brought None) c.in-Ok-Found.ensures.kept c.find_in_text.ensures

pub returns-in-Ok-TooLarge-clause-found : goal.returns-in-Ok-TooLarge-clause-found
returns-in-Ok-TooLarge-clause-found g c =
    let got = got_of c.in-Ok-TooLarge.field-0 in
    FoundInLog-fetched (judging_of c.args.judge) (Ok LogLarge) c.args.show.now c.args.log.now got _ _
    (c.in-Ok-TooLarge.ensures.brought None) c.in-Ok-TooLarge.ensures.kept
    (subst (λ f. FindsOn (judging_of c.args.judge) c.args.show.now (got_of f) (Ok LogLarge)) (sym c.in-Ok-TooLarge.field-0-is) refl)

pub returns-in-Ok-Fault-clause-found : goal.returns-in-Ok-Fault-clause-found
returns-in-Ok-Fault-clause-found g c =
    let got = got_of c.in-Ok-Fault.field-0 in
    FoundInLog-fetched (judging_of c.args.judge) (Err Shelf) c.args.show.now c.args.log.now got _ _
    (c.in-Ok-Fault.ensures.brought None) c.in-Ok-Fault.ensures.kept (subst (λ f. FindsOn (judging_of c.args.judge) c.args.show.now (got_of f) (Err Shelf)) (sym c.in-Ok-Fault.field-0-is) refl)
