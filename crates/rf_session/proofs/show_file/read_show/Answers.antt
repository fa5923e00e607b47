use Rattle.std.proofs.Common.{◌≡◌, ◌∙◌, ◌+◌, [], Some, Ok, Err, ap, arith, drop, subst, sym}
use Rattle.rf_base.specs.Input.{Input, lines_of}
use Rattle.rf_base.specs.Reader.{limit_of}
use Rattle.rf_session.specs.declared.reply.Code.{Code}
use Rattle.rf_session.specs.declared.show_file.ShowFault.TheVariants.{Line as BadLine}
use Rattle.rf_session.specs.Fetches.{shelf_alone}
use Rattle.rf_session.specs.ShowFile.{ShowRead}
use Rattle.rf_session.specs.Top.{script}
use Rattle.rf_session.proofs.ShowReading.{Reading-begin, Reading-failed, Reading-more, Reading-others, Reading-refused, took_is}
use Rattle.rf_session.proofs.show_file.read_show.Goals as goal

pub loop-show-init : goal.loop-show-init
loop-show-init g c =
    let all : limit_of c.in-Ok.reader ≡ 67108864 = ap (λ (i : Input). i.limit) (c.in-Ok.ensures.input []) in (
      Reading-begin c.args.bytes.items _ c.in-Ok-new.show c.in-Ok.reader _ c.in-Ok-new.ensures c.in-Ok.ensures.input c.new-source.ensures,
      c.in-Ok.ensures.reads (Some (drop c.new-source.result.given c.new-source.result.bytes.items)),
      omega (arith, all),
    )

pub loop-show-preserved : goal.loop-show-preserved
loop-show-preserved g c =
    let left = Some (drop c.loop-show.source.given c.loop-show.source.bytes.items) in
    let left' = Some (drop c.take_line.new.source.given c.take_line.new.source.bytes.items) in
    let is = c.in-Ok-Line.is ∙ ap Ok c.in-Ok-Line.field-0-is in
    let fewer = c.take_line.ensures.shrinks is in
    let room = c.loop-show.invariant.2 in (
      Reading-more c.args.bytes.items _ _ _ c.loop-show.show c.loop-show.reader c.take_line.new.reader left left' c.loop-show.line c.loop-show.invariant.0
          c.take_line.new.show (took_is c.take_line.result _ left left' _ _ _ _ c.loop-show.reader c.take_line.new.reader is c.take_line.ensures.takes)
          c.take_line.ensures.others,
      c.take_line.ensures.reads,
      omega (arith, fewer, room),
    )

pub returns-in-Err-Refused-clause-read : goal.returns-in-Err-Refused-clause-read
returns-in-Err-Refused-clause-read g c =
    let left = Some (drop c.loop-show.source.given c.loop-show.source.bytes.items) in
    let left' = Some (drop c.take_line.new.source.given c.take_line.new.source.bytes.items) in
    let before = shelf_alone (g.F.Shelf.file c.args.shelf.now) (g.F.Shelf.faults c.args.shelf.now) (g.F.Shelf.asked c.args.shelf.now) in
    let after = shelf_alone (g.F.Shelf.file c.take_line.new.shelf) (g.F.Shelf.faults c.take_line.new.shelf) (g.F.Shelf.asked c.take_line.new.shelf) in
    let read = Reading-refused c.args.bytes.items before _ after c.loop-show.show c.loop-show.reader c.take_line.new.reader left left' c.loop-show.line
    c.loop-show.invariant.0 c.in-Err-Refused.code
    (took_is c.take_line.result _ left left' c.loop-show.show c.take_line.new.show _ after c.loop-show.reader c.take_line.new.reader
    (c.in-Err-Refused.is ∙ ap Err c.in-Err-Refused.field-0-is) c.take_line.ensures.takes) in
    subst (λ (code : Code). ShowRead (lines_of (script c.args.bytes.items)) before after (Err (BadLine (c.loop-show.line + 1) code))) (sym c.in-Err-Refused.code-is) read

pub returns-in-Err-Refused-clause-others : goal.returns-in-Err-Refused-clause-others
returns-in-Err-Refused-clause-others g c =
    let left = Some (drop c.loop-show.source.given c.loop-show.source.bytes.items) in
    let left' = Some (drop c.take_line.new.source.given c.take_line.new.source.bytes.items) in
    let after = shelf_alone (g.F.Shelf.file c.take_line.new.shelf) (g.F.Shelf.faults c.take_line.new.shelf) (g.F.Shelf.asked c.take_line.new.shelf) in
    Reading-others c.args.bytes.items _ _ after c.loop-show.show c.loop-show.reader c.take_line.new.reader left left' c.loop-show.line c.loop-show.invariant.0
    c.take_line.ensures.others

pub returns-in-Err-Shelf-clause-read : goal.returns-in-Err-Shelf-clause-read
returns-in-Err-Shelf-clause-read g c =
    let left = Some (drop c.loop-show.source.given c.loop-show.source.bytes.items) in
    let left' = Some (drop c.take_line.new.source.given c.take_line.new.source.bytes.items) in
    Reading-failed c.args.bytes.items _ _ _ c.loop-show.show c.loop-show.reader c.take_line.new.reader left left' c.loop-show.line c.loop-show.invariant.0
    (took_is c.take_line.result _ left left' c.loop-show.show c.take_line.new.show _ _ c.loop-show.reader c.take_line.new.reader
    (c.in-Err-Shelf.is ∙ ap Err c.in-Err-Shelf.field-0-is) c.take_line.ensures.takes)

pub returns-in-Err-Shelf-clause-others : goal.returns-in-Err-Shelf-clause-others
returns-in-Err-Shelf-clause-others g c =
    let left = Some (drop c.loop-show.source.given c.loop-show.source.bytes.items) in
    let left' = Some (drop c.take_line.new.source.given c.take_line.new.source.bytes.items) in
    let after = shelf_alone (g.F.Shelf.file c.take_line.new.shelf) (g.F.Shelf.faults c.take_line.new.shelf) (g.F.Shelf.asked c.take_line.new.shelf) in
    Reading-others c.args.bytes.items _ _ after c.loop-show.show c.loop-show.reader c.take_line.new.reader left left' c.loop-show.line c.loop-show.invariant.0
    c.take_line.ensures.others

pub returns-in-Err-Memory-clause-others : goal.returns-in-Err-Memory-clause-others
returns-in-Err-Memory-clause-others g c =
    let left = Some (drop c.loop-show.source.given c.loop-show.source.bytes.items) in
    let left' = Some (drop c.take_line.new.source.given c.take_line.new.source.bytes.items) in
    let after = shelf_alone (g.F.Shelf.file c.take_line.new.shelf) (g.F.Shelf.faults c.take_line.new.shelf) (g.F.Shelf.asked c.take_line.new.shelf) in
    Reading-others c.args.bytes.items _ _ after c.loop-show.show c.loop-show.reader c.take_line.new.reader left left' c.loop-show.line c.loop-show.invariant.0
    c.take_line.ensures.others
