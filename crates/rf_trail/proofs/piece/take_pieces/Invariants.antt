use Rattle.std.proofs.Common.{◌+◌, ◌-◌}
use Rattle.rf_trail.proofs.PieceLemmas.{Taking}
use Rattle.rf_trail.proofs.piece.take_pieces.Given as goal

abbrev pub invariant-loop-first : goal.invariant-loop-first
invariant-loop-first l = Taking l.initial.domains l.domains l.initial.pieces.items l.pieces.items l.carrier l.lo l.hi l.from

abbrev pub decreases-loop-first : goal.decreases-loop-first
decreases-loop-first l = l.hi + 1 - l.from
