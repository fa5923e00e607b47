use Rattle.std.proofs.Common.{◌≤◌, ◌+◌, Some, drop}
use Rattle.rf_base.specs.Reader.{limit_of, Reads}
use Rattle.rf_session.specs.Fetches.{shelf_alone}
use Rattle.rf_session.proofs.ShowReading.{Reading}
use Rattle.rf_session.proofs.show_file.read_show.Given as goal

abbrev pub invariant-loop-show : goal.invariant-loop-show
invariant-loop-show g l =
    Reading l.fn.bytes.items
    (shelf_alone (g.F.Shelf.file l.initial.shelf) (g.F.Shelf.faults l.initial.shelf) (g.F.Shelf.asked l.initial.shelf))
    (shelf_alone (g.F.Shelf.file l.shelf) (g.F.Shelf.faults l.shelf) (g.F.Shelf.asked l.shelf))
    l.show l.reader (Some (drop l.source.given l.source.bytes.items)) l.line
    × Reads l.reader (Some (drop l.source.given l.source.bytes.items))
    × (l.line + limit_of l.reader ≤ 67108864)

abbrev pub decreases-loop-show : goal.decreases-loop-show
decreases-loop-show g l = limit_of l.reader
