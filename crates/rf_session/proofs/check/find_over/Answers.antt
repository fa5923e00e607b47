use Rattle.std.proofs.Common.{◌∙◌, Err, ap, ap₂, sym}
use Rattle.rf_session.specs.declared.show_file.ShowFault.TheVariants.{Line}
use Rattle.rf_session.specs.Checked.{judging_of}
use Rattle.rf_session.proofs.Checking.{FoundOver-line, FoundOver-made, FoundOver-shelf}
use Rattle.rf_session.proofs.check.find_over.Goals as goal

pub returns-in-Ok-clause-found : goal.returns-in-Ok-clause-found
returns-in-Ok-clause-found g c =
    FoundOver-made (judging_of c.args.judge) c.find_in_log.result c.args.bytes.items c.args.log.now c.in-Ok.show _ _ _ c.in-Ok.ensures.read c.find_in_log.ensures.found

pub returns-in-Err-Line-clause-found : goal.returns-in-Err-Line-clause-found
returns-in-Err-Line-clause-found g c =
    FoundOver-line (judging_of c.args.judge) c.read_show.result _ _ c.args.bytes.items c.args.log.now _ _
    (c.in-Err-Line.is ∙ ap Err (c.in-Err-Line.field-0-is ∙ ap₂ Line (sym c.in-Err-Line.line-is) (sym c.in-Err-Line.code-is))) c.read_show.ensures.read

pub returns-in-Err-Shelf-clause-found : goal.returns-in-Err-Shelf-clause-found
returns-in-Err-Shelf-clause-found g c =
    FoundOver-shelf (judging_of c.args.judge) c.read_show.result c.args.bytes.items c.args.log.now _ _ (c.in-Err-Shelf.is ∙ ap Err c.in-Err-Shelf.field-0-is) c.read_show.ensures.read
