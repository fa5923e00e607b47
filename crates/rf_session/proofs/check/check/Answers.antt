use Rattle.std.proofs.Common.{◌∙◌, Err, ap}
use Rattle.rf_session.specs.Checked.{judging_of}
use Rattle.rf_session.proofs.CheckEnds.{Checks-failed, Checks-told}
use Rattle.rf_session.proofs.check.check.Goals as goal

pub returns-in-Ok-clause-checks : goal.returns-in-Ok-clause-checks
returns-in-Ok-clause-checks g c =
    Checks-told (judging_of c.args.judge) c.tell.result c.args.show.now c.args.log.now c.in-Ok.finding (g.O.Sink.contents c.args.output.now) (g.O.Sink.contents c.tell.new.output)
    (g.F.Shelf.file c.args.shelf.now) (g.F.Shelf.file c.find.new.shelf) (g.F.Shelf.faults c.args.shelf.now) (g.F.Shelf.faults c.find.new.shelf)
    (g.F.Shelf.asked c.args.shelf.now) (g.F.Shelf.asked c.find.new.shelf)
    c.in-Ok.ensures.found c.find.ensures.others c.tell.ensures.tells

pub returns-in-Err-Shelf-clause-checks : goal.returns-in-Err-Shelf-clause-checks
returns-in-Err-Shelf-clause-checks g c =
    Checks-failed (judging_of c.args.judge) c.find.result c.args.show.now c.args.log.now (g.O.Sink.contents c.args.output.now)
    (g.F.Shelf.file c.args.shelf.now) (g.F.Shelf.file c.find.new.shelf) (g.F.Shelf.faults c.args.shelf.now) (g.F.Shelf.faults c.find.new.shelf)
    (g.F.Shelf.asked c.args.shelf.now) (g.F.Shelf.asked c.find.new.shelf)
    (c.in-Err-Shelf.is ∙ ap Err c.in-Err-Shelf.field-0-is) c.find.ensures.found
