use Rattle.std.proofs.Common.{◌≡◌, ◌+◌, ◌≤◌, true, ℤ, pos, w64, subst, sym, ap, ◌<ℤ◌}
use Rattle.std.proofs.lemmas.Int.{to_z-of_z}
use Rattle.rf_props.specs.Live.{Marks, cell_of, is_marked}
use Rattle.rf_props.proofs.LiveLemmas.{unmark_keeps}
use Rattle.rf_props.proofs.live.Live.unmark.Goals as goal

pub returns : goal.returns
returns c = λ f small out marked.
    let m : Marks = record { base = c.self.inside.base; shift = c.self.inside.shift; cells = c.self.inside.cells } in
    unmark_keeps m c.remove_range.new.self (c.cell-first.result + 1) c.cell-end.result c.frequency_below.result c.frequency_above.result f c.args.lo c.args.hi
    (ap (λ n. n + 1) (subst (λ (x : Marks). c.cell-first.result ≡ cell_of x c.frequency_below.result) (sym c.self.view_is) c.cell-first.ensures))
    (subst (λ (x : Marks). c.cell-end.result ≡ cell_of x c.frequency_above.result) (sym c.self.view_is) c.cell-end.ensures) c.remove_range.ensures.has
    (subst (λ (z : ℤ). pos f <ℤ z → f ≤ c.frequency_below.result) (to_z-of_z w64 c.args.lo c.ranges.lo) (c.frequency_below.ensures f small))
    (subst (λ (z : ℤ). z <ℤ pos f → c.frequency_above.result ≤ f) (to_z-of_z w64 c.args.hi c.ranges.hi) (c.frequency_above.ensures f small)) c.if-first-end.false out
    (subst (λ (x : Marks). is_marked x f ≡ true) (sym c.self.view_is) marked)
