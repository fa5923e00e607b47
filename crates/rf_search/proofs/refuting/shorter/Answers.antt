use Rattle.std.proofs.Common.{rules, ◌≡◌, subst, reverse, List}
use Rattle.rf_search.specs.declared.level.Level.{Level}
use Rattle.rf_search.specs.State.{AreDecided, path_of, path_at}
use Rattle.rf_search.proofs.Refutations.{path_range, decided_range}
use Rattle.rf_search.proofs.refuting.shorter.Goals as goal

pub scratch-requires-clause-range : goal.scratch-requires-clause-range
scratch-requires-clause-range g c =
    let case = g.T.Theory.case c.args.theory.now in
    let conds = c.args.candidate.conds.now in
    let among : AreDecided (path_at c.args.search.now) conds =
    subst (λ (ls : List Level). AreDecided (path_of (reverse ls)) conds) c.as_slice.ensures.value (c.are_decided.ensures.0 (search rules)) in
    (case, c.counts.ensures, decided_range case (path_at c.args.search.now) conds (path_range c.requires.marked.marked) among)
