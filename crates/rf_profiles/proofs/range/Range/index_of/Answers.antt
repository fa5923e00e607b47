use Rattle.std.proofs.Common.{arith, rules}
use Rattle.rf_profiles.proofs.RangeLemmas.{on_grid, off_grid}
use Rattle.rf_profiles.proofs.range.Range.index_of.Goals as goal
use Rattle.rf_profiles.proofs.range.Range.index_of.Goals.{then-khz-self-via-then-khz-self, then-khz-self-via-else-khz-self+then-khz-self-2}
use Rattle.rf_profiles.proofs.range.Range.index_of.Goals.{then-khz-self-via-else-khz-self+else-khz-self-2+then-khz-self-ne0}

pub returns-then-khz-self-clause-none : goal.returns-then-khz-self-clause-none
returns-then-khz-self-clause-none c = rw (← c.get-khz.ensures.value, ← c.self.view_is) (λ found.
    let on = off_grid _ c.self.invariant c.get-khz.result found in
    elim c.then-khz-self.branch [
      | then-khz-self-via-then-khz-self w ↦ omega arith
      | then-khz-self-via-else-khz-self+then-khz-self-2 w ↦ omega arith
      | then-khz-self-via-else-khz-self+else-khz-self-2+then-khz-self-ne0 w ↦ w.if-khz-self-ne0.true on.2
    ])

pub returns-clause-found : goal.returns-clause-found
returns-clause-found c =
    rw (← c.get-khz.ensures.value, ← c.self.view_is) (on_grid _ c.self.invariant c.get-khz.result (omega arith) (omega arith) (search rules))
