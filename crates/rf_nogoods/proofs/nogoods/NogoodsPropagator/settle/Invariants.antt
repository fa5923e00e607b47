use Rattle.std.proofs.Common.{◌≡◌}
use Rattle.rf_domain.specs.Sets.{total_of}
use Rattle.rf_trail.specs.Trace.{has_of}
use Rattle.rf_propagate.proofs.BothLaws.{Kept}
use Rattle.rf_nogoods.proofs.nogoods.NogoodsPropagator.settle.Given as goal

abbrev pub invariant-passes : goal.invariant-passes
invariant-passes g l = record {
  held : l.self-inside.lines.items ≡ l.fn.self;
  kept : Kept (g.T.Theory.case l.theory) (g.T.Theory.lines l.theory) l.initial.trail l.trail;
}

-- the number of indices that are left
abbrev pub decreases-passes : goal.decreases-passes
decreases-passes g l = total_of l.trail.counts (has_of l.trail.counts l.trail.entries)
