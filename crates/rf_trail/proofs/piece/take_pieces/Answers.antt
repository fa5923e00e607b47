use Rattle.std.proofs.Common.{◌≡◌, ◌∙◌, ◌+◌, ◌≤◌, ◌<◌, sym, subst, arith, List, [], ◌∷◌, ◌++◌}
use Rattle.rf_trail.proofs.PieceLemmas.{Taking, taking_first, taking_more, taking_last}
use Rattle.rf_trail.specs.declared.piece.Piece.{Piece}
use Rattle.rf_trail.proofs.piece.take_pieces.Goals as goal

pub loop-first-preserved : goal.loop-first-preserved
loop-first-preserved c =
    let run = c.run_end.ensures.run in
    let ordered = run.ordered in
    let next = c.in-Some.ensures in
    let last = c.min-last.ensures in
    subst (λ (ps : List Piece). Taking c.args.domains.now c.remove_range.new.self c.args.pieces.now.items ps c.args.carrier c.args.lo c.args.hi (c.min-last.result + 1))
    (sym c.in_ok-push.ensures.items)
    (taking_more c.args.domains.now c.loop-first.domains c.remove_range.new.self c.args.pieces.now.items c.loop-first.pieces.items c.args.carrier c.args.lo c.args.hi
    c.loop-first.from c.in-Some.first c.min-last.result c.loop-first.invariant next.later (omega arith) (omega arith)
    (λ k later below. next.least k later below) (λ k later within. run.all k later (omega arith)) c.remove_range.ensures.sizes c.remove_range.ensures.has)

pub returns-then-first-hi-clause-ok : goal.returns-then-first-hi-clause-ok
returns-then-first-hi-clause-ok c =
    taking_last c.args.domains.now c.loop-first.domains c.args.pieces.now.items c.loop-first.pieces.items c.args.carrier c.args.lo c.args.hi c.loop-first.from c.loop-first.invariant
    (λ k later within. c.in-Some.ensures.least k later (omega arith))

pub returns-in_default-clause-ok : goal.returns-in_default-clause-ok
returns-in_default-clause-ok c =
    taking_last c.args.domains.now c.loop-first.domains c.args.pieces.now.items c.loop-first.pieces.items c.args.carrier c.args.lo c.args.hi c.loop-first.from c.loop-first.invariant
    (λ k later within. c.in_default.ensures.none k later)
