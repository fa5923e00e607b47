use Rattle.std.proofs.Common.{◌≤◌}
use Rattle.rf_base.specs.Reader.{limit_of, Reads}
use Rattle.rf_session.specs.Fetches.{outside}
use Rattle.rf_session.specs.Run.{Step}
use Rattle.rf_session.proofs.Serving.{Serving}
use Rattle.rf_session.proofs.session.serve.Given as goal

abbrev pub invariant-loop-refusal : goal.invariant-loop-refusal
invariant-loop-refusal g l =
    Serving (Step g.M.Machine.steps) l.initial.machine l.machine
    (outside (g.O.Sink.contents l.initial.output) (g.F.Shelf.file l.initial.shelf) (g.F.Shelf.faults l.initial.shelf) (g.F.Shelf.asked l.initial.shelf))
    (outside (g.O.Sink.contents l.output) (g.F.Shelf.file l.shelf) (g.F.Shelf.faults l.shelf) (g.F.Shelf.asked l.shelf))
    l.initial.reader l.reader (g.I.Source.left l.initial.input) (g.I.Source.left l.input) l.refused
    × Reads l.reader (g.I.Source.left l.input)
    × (g.I.Source.faults l.initial.input ≤ g.I.Source.faults l.input)
    × (g.O.Sink.faults l.initial.output ≤ g.O.Sink.faults l.output)

abbrev pub decreases-loop-refusal : goal.decreases-loop-refusal
decreases-loop-refusal g l = limit_of l.reader
