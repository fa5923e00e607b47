use Rattle.std.proofs.Common.{◌≡◌, true, subst, sym}
use Rattle.rf_props.specs.Live.{Marks, cell_of, is_marked}
use Rattle.rf_props.proofs.LiveLemmas.{mark_marks, mark_keeps}
use Rattle.rf_props.proofs.live.Live.mark.Goals as goal

pub returns-clause-marked : goal.returns-clause-marked
returns-clause-marked c = λ f over under.
    let m : Marks = record { base = c.self.inside.base; shift = c.self.inside.shift; cells = c.self.inside.cells } in
    mark_marks m c.put_back.new.self c.cell-first.result c.cell-last.result c.args.lo c.args.hi f
    (subst (λ (x : Marks). c.cell-first.result ≡ cell_of x c.args.lo) (sym c.self.view_is) c.cell-first.ensures)
    (subst (λ (x : Marks). c.cell-last.result ≡ cell_of x c.args.hi) (sym c.self.view_is) c.cell-last.ensures) c.put_back.ensures.has over under

pub returns-clause-kept : goal.returns-clause-kept
returns-clause-kept c = λ f marked.
    let m : Marks = record { base = c.self.inside.base; shift = c.self.inside.shift; cells = c.self.inside.cells } in
    mark_keeps m c.put_back.new.self c.cell-first.result c.cell-last.result f c.put_back.ensures.has
    (subst (λ (x : Marks). is_marked x f ≡ true) (sym c.self.view_is) marked)
