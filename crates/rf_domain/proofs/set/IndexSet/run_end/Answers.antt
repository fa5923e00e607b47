use Rattle.std.proofs.Common.{◌≡◌, ◌≤◌, ◌<◌, ◌*◌, ◌-◌, ℕ, List, true, length, subst, arith}
use Rattle.rf_domain.specs.Indices.{has_bit, IsFirstClear, IsRun}
use Rattle.rf_domain.proofs.Bits.{run_to, run_out}
use Rattle.rf_domain.proofs.Lowest.{sized}
use Rattle.rf_domain.proofs.set.IndexSet.run_end.Goals.{In-Some, In-None}
use Rattle.rf_domain.proofs.set.IndexSet.run_end.Goals as goal

some : (c : In-Some) → (c.args.from < c.in-Some.end) × IsRun c.args.self.now c.args.from (c.in-Some.end - 1)
some c =
    run_to c.self.inside.size c.args.from c.self.inside.words.items c.args.self.now c.self.invariant.padded c.self.view_is c.requires c.in-Some.end
    (subst (λ (ws : List ℕ). IsFirstClear ws c.args.from c.in-Some.end) c.deref.ensures.value c.in-Some.ensures)

none : (c : In-None) → (c.args.from < c.self.inside.size) × IsRun c.args.self.now c.args.from (c.self.inside.size - 1)
none c =
    run_out c.self.inside.size c.args.from c.self.inside.words.items c.args.self.now c.self.invariant.padded c.self.view_is c.requires
    (subst (λ (ws : List ℕ). (j : ℕ) → c.args.from ≤ j → j < 64 * length ws → has_bit ws j ≡ true) c.deref.ensures.value c.in-None.ensures)

pub overflow_sub-result : goal.overflow_sub-result
overflow_sub-result c = omega (arith, (some c).0)

pub overflow_sub-result-in-None : goal.overflow_sub-result-in-None
overflow_sub-result-in-None c = omega (arith, (none c).0)

pub returns-in-Some : goal.returns-in-Some
returns-in-Some c =
    let run = (some ((goal.at.returns-in-Some c).In-Some)).1 in
    record { run = run; small = omega (arith, run.known, sized c.self.inside.size c.self.inside.words.items c.args.self.now c.self.view_is, c.self.invariant.padded.small) }

pub returns-in-None : goal.returns-in-None
returns-in-None c =
    let run = (none ((goal.at.returns-in-None c).In-None)).1 in
    record { run = run; small = omega (arith, run.known, sized c.self.inside.size c.self.inside.words.items c.args.self.now c.self.view_is, c.self.invariant.padded.small) }
