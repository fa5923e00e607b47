use Rattle.std.proofs.Common.{◌≡◌, ◌-◌, length, ap, subst, arith, List, Some, slice_get}
use Rattle.rf_trail.specs.declared.entry.Entry.{Entry}
use Rattle.rf_trail.proofs.PieceLemmas.{entry_at, as_many}
use Rattle.rf_trail.proofs.trail.Trail.entry.Goals as goal

pub returns : goal.returns
returns c =
    let steps = c.self.inside.steps.items in
    let entries = ap (λ t. t.entries) c.self.view_is in
    subst (λ (es : List Entry). slice_get es (length es - 1 - c.args.n) ≡ Some c.index.result.now.entry) entries
    (entry_at steps c.args.n c.index.result.now (omega (arith, c.requires, ap length entries, as_many steps)) c.index.ensures)
