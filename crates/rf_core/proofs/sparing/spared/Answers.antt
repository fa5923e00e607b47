use Rattle.std.proofs.Common.{◌≡◌, Some, [], ◌<◌, ℕ, List, length, remove, arith, ap, sym, subst, ◌∙◌, slice_index_or}
use Rattle.rf_log.specs.Case.{IsPlan}
use Rattle.rf_log.specs.Solved.{spent}
use Rattle.rf_show.specs.Case.{case_of}
use Rattle.rf_tighter.specs.Locked.{kept}
use Rattle.rf_decide.specs.Decisions.{IsDecision}
use Rattle.rf_solving.specs.Solving.{IsSolvedBy}
use Rattle.rf_core.specs.Blocking.{AreLocks, IsStuck}
use Rattle.rf_core.proofs.LockLists.{length-without, locks-remove}
use Rattle.rf_core.proofs.SparingLemmas.{length-more, plans-less, plans-more, stuck-at}
use Rattle.rf_core.proofs.sparing.spared.Goals as goal

pub returns-in_ok-push-in-Plan : goal.returns-in_ok-push-in-Plan
returns-in_ok-push-in-Plan c = λ show n is has.
    let plan = subst (λ (xs : List ℕ). IsPlan (case_of (kept show xs)) c.in-Plan.plan) c.requires.fewer
    (subst (λ d. IsDecision (kept show c.args.fewer.items) n d) c.in-Plan.is has) in
    let longer = ap (λ (ps : List (List ℕ)). length ps) c.in_ok-push-in-Plan.ensures.items ∙ length-more c.args.held.plans.items c.in-Plan.plan in (
      record {
        locks = is.locks;
        few = omega (arith, c.requires.room, longer);
        without = subst (λ (ps : List (List ℕ)). (i : ℕ) → i < length ps →
            IsPlan (case_of (kept show (remove c.args.held.keep.items i))) (slice_index_or ps i [])) (sym c.in_ok-push-in-Plan.ensures.items)
            (plans-more (λ i p. IsPlan (case_of (kept show (remove c.args.held.keep.items i))) p) c.args.held.plans.items c.in-Plan.plan is.without plan);
        refutation = is.refutation;
      },
      omega (arith, c.requires.room, longer),
    )

pub returns-in-Refuted : goal.returns-in-Refuted
returns-in-Refuted c = λ show n is has.
    let shorter = ap (λ (xs : List ℕ). length xs) c.requires.fewer in
    let one = length-without c.args.held.keep.items (length c.args.held.plans.items) c.requires.room in (
      record {
        locks = subst (λ (xs : List ℕ). AreLocks show 0 xs) (sym c.requires.fewer) (locks-remove show 0 c.args.held.keep.items (length c.args.held.plans.items) is.locks);
        few = omega (arith, c.requires.room, shorter, one);
        without = λ i low.
            subst (λ (xs : List ℕ). IsPlan (case_of (kept show (remove xs i))) (slice_index_or c.args.held.plans.items i [])) (sym c.requires.fewer)
            (plans-less c.fewer_locks_keep_plans.ensures show c.args.held.keep.items (length c.args.held.plans.items) i _ low (is.without i low));
        refutation = subst (λ d. IsDecision (kept show c.args.fewer.items) n d) c.in-Refuted.is has;
      },
      omega (arith, c.requires.room, shorter, one),
    )

pub returns-in-Spent : goal.returns-in-Spent
returns-in-Spent c = λ show n is has.
    subst (λ (xs : List ℕ). IsStuck show n xs c.in-Spent.log (Some (c.index.result.now, c.args.held.log))) (sym (c.from_vec.ensures ∙ c.requires.fewer))
    (stuck-at show n c.args.held.keep.items c.args.held.log c.in-Spent.log (length c.args.held.plans.items) c.index.result.now is.locks c.requires.room
    (subst (λ k. c.index.result.now ≡ slice_index_or c.args.held.keep.items k c.index.result.now) (omega (arith, c.len.ensures)) c.index.ensures)
    is.refutation
    (subst (λ (xs : List ℕ). IsSolvedBy (kept show xs) n spent c.in-Spent.log) c.requires.fewer (subst (λ d. IsDecision (kept show c.args.fewer.items) n d) c.in-Spent.is has)))
