use Rattle.std.proofs.Common.{◌≡◌, ◌∙◌, ◌+◌, ◌≤◌, [], ◌∷◌, ◌++◌, length, take, reverse, sym, ap, subst, arith}
use Rattle.std.proofs.lemmas.List.{length-append, take-append-le, take_all}
use Rattle.rf_trail.proofs.TraceLaws.{reverse-take-drop}
use Rattle.rf_trail.proofs.PieceLemmas.{last_known, pieces_less}
use Rattle.rf_trail.specs.Pieces.{ArePieces}
use Rattle.rf_trail.proofs.piece.give_back.Goals.{In-Some}
use Rattle.rf_trail.proofs.piece.give_back.Goals as goal

made : (c : In-Some) → ArePieces c.loop-pieces.domains (c.pop.new.self.items ++ c.in-Some.piece ∷ [])
made c = subst (ArePieces c.loop-pieces.domains) c.in-Some.ensures.items c.loop-pieces.invariant.made

pub put_back-requires-clause-in_range : goal.put_back-requires-clause-in_range
put_back-requires-clause-in_range c = (last_known c.loop-pieces.domains c.pop.new.self.items c.in-Some.piece (made ((goal.at.put_back-requires-clause-in_range c).In-Some))).1

pub loop-pieces-preserved-in-Some : goal.loop-pieces-preserved-in-Some
loop-pieces-preserved-in-Some c =
    let fewer : length c.loop-pieces.pieces.items ≡ length c.pop.new.self.items + 1 = ap length c.in-Some.ensures.items ∙ length-append c.pop.new.self.items (c.in-Some.piece ∷ []) in
    let count : c.args.count ≤ length c.pop.new.self.items = omega arith in record {
      count = count;
      first = sym (take-append-le c.args.count c.pop.new.self.items (c.in-Some.piece ∷ []) count) ∙ ap (take c.args.count) (sym c.in-Some.ensures.items) ∙ c.loop-pieces.invariant.first;
      sized = c.put_back.ensures.sizes ∙ c.loop-pieces.invariant.sized;
      made = pieces_less c.loop-pieces.domains c.put_back.new.self c.pop.new.self.items c.in-Some.piece (made ((goal.at.loop-pieces-preserved-in-Some c).In-Some))
          c.put_back.ensures.sizes c.put_back.ensures.has;
    }

pub returns-clause-left : goal.returns-clause-left
returns-clause-left c =
    let all : take c.args.count c.loop-pieces.pieces.items ≡ c.loop-pieces.pieces.items = take_all c.args.count c.loop-pieces.pieces.items (omega arith) in
    ap reverse (sym all ∙ c.loop-pieces.invariant.first) ∙ reverse-take-drop c.args.pieces.now.items c.args.count c.requires.count
