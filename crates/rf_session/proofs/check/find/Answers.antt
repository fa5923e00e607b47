use Rattle.std.proofs.Common.{None, ap}
use Rattle.rf_session.specs.Fetches.{got_of}
use Rattle.rf_session.specs.Checked.{judging_of}
use Rattle.rf_session.proofs.Checking.{Found-fault, Found-fetched, Found-large, KeepsOthers-fetched}
use Rattle.rf_session.proofs.check.find.Goals as goal

pub returns-in-Ok-Found-clause-found : goal.returns-in-Ok-Found-clause-found
returns-in-Ok-Found-clause-found g c =
    let came = c.in-Ok-Found in
    Found-fetched (judging_of c.args.judge) c.find_over.result c.args.show.now c.args.log.now came.bytes.items (got_of came.field-0) _ _ _ (ap got_of came.field-0-is)
    (came.ensures.brought None) came.ensures.kept c.find_over.ensures.found

pub returns-in-Ok-Found-clause-others : goal.returns-in-Ok-Found-clause-others
returns-in-Ok-Found-clause-others g c =
    let came = c.in-Ok-Found in
    KeepsOthers-fetched c.args.show.now c.args.log.now came.bytes.items (got_of came.field-0) _ _ _ (ap got_of came.field-0-is)
    (came.ensures.brought None) came.ensures.kept c.find_over.ensures.others

pub returns-in-Ok-TooLarge-clause-found : goal.returns-in-Ok-TooLarge-clause-found
returns-in-Ok-TooLarge-clause-found g c =
    let came = c.in-Ok-TooLarge in
    Found-large (judging_of c.args.judge) c.args.show.now c.args.log.now (got_of came.field-0) _ _ (ap got_of came.field-0-is) (came.ensures.brought None) came.ensures.kept

pub returns-in-Ok-Fault-clause-found : goal.returns-in-Ok-Fault-clause-found
returns-in-Ok-Fault-clause-found g c =
    let came = c.in-Ok-Fault in
    Found-fault (judging_of c.args.judge) c.args.show.now c.args.log.now (got_of came.field-0) _ _ (ap got_of came.field-0-is) (came.ensures.brought None) came.ensures.kept
