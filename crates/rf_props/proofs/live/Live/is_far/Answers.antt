use Rattle.std.proofs.Common.{◌≡◌, ℕ, false, ℤ, pos, ◌≤ℤ◌, w64, subst, sym, ltb-true}
use Rattle.std.proofs.lemmas.Int.{to_z-of_z}
use Rattle.rf_props.specs.Live.{Marks, cell_of, is_marked}
use Rattle.rf_props.proofs.LiveLemmas.{far_next, far_none}
use Rattle.rf_props.proofs.live.Live.is_far.Goals as goal

at_lo : (lo lo' : ℤ) (f : ℕ) → lo' ≡ lo → lo ≤ℤ pos f → lo' ≤ℤ pos f
at_lo lo lo' f e low = subst (λ (z : ℤ). z ≤ℤ pos f) (sym e) low

at_hi : (hi hi' : ℤ) (f : ℕ) → hi' ≡ hi → pos f ≤ℤ hi → pos f ≤ℤ hi'
at_hi hi hi' f e high = subst (λ (z : ℤ). pos f ≤ℤ z) (sym e) high

pub returns-in-Some : goal.returns-in-Some
returns-in-Some c = λ beyond f small inside.
    let m : Marks = record { base = c.self.inside.base; shift = c.self.inside.shift; cells = c.self.inside.cells } in
    subst (λ (x : Marks). is_marked x f ≡ false) c.self.view_is
    (far_next m c.cell-from.result c.in-Some.cell c.cell.result c.frequency_at.result c.frequency_at-in-Some.result f
    (subst (λ (x : Marks). c.cell-from.result ≡ cell_of x c.frequency_at.result) (sym c.self.view_is) c.cell-from.ensures)
    (subst (λ (x : Marks). c.cell.result ≡ cell_of x c.frequency_at-in-Some.result) (sym c.self.view_is) c.cell.ensures)
    c.in-Some.ensures (ltb-true _ _ beyond) (c.frequency_at.ensures.below f small (at_lo c.args.lo _ f (to_z-of_z w64 c.args.lo c.ranges.lo) inside.0))
    (c.frequency_at-in-Some.ensures.above f small (at_hi c.args.hi _ f (to_z-of_z w64 c.args.hi c.ranges.hi) inside.1)))

pub returns-in-None : goal.returns-in-None
returns-in-None c = λ _ f small inside.
    let m : Marks = record { base = c.self.inside.base; shift = c.self.inside.shift; cells = c.self.inside.cells } in
    subst (λ (x : Marks). is_marked x f ≡ false) c.self.view_is
    (far_none m c.cell-from.result c.frequency_at.result f (subst (λ (x : Marks). c.cell-from.result ≡ cell_of x c.frequency_at.result) (sym c.self.view_is) c.cell-from.ensures)
    c.in-None.ensures (c.frequency_at.ensures.below f small (at_lo c.args.lo _ f (to_z-of_z w64 c.args.lo c.ranges.lo) inside.0)))
