use Rattle.std.proofs.Common.{◌≡◌, ◌≤◌, length, take}
use Rattle.rf_domain.specs.Sets.{sizes}
use Rattle.rf_trail.specs.Pieces.{ArePieces}
use Rattle.rf_trail.proofs.piece.give_back.Given as goal

abbrev pub invariant-loop-pieces : goal.invariant-loop-pieces
invariant-loop-pieces l = record {
  count : l.count ≤ length l.pieces.items;
  first : take l.count l.pieces.items ≡ take l.count l.initial.pieces.items;
  sized : sizes l.domains ≡ sizes l.initial.domains;
  made : ArePieces l.domains l.pieces.items;
}

abbrev pub decreases-loop-pieces : goal.decreases-loop-pieces
decreases-loop-pieces l = goal.left-loop-pieces l
