use Rattle.std.proofs.Common.{ℕ, Bool, ◌+◌, subst}
use Rattle.rf_propagate.specs.Laws.{same}
use Rattle.rf_trail.specs.Trace.{has_of}
use Rattle.rf_propagate.specs.Openings.{IsNextOpen}
use Rattle.rf_propagate.proofs.OpeningLaws.{one_at}
use Rattle.rf_nogoods.proofs.RemovalLemmas.{two_done, one_done}
use Rattle.rf_nogoods.proofs.removal.take_out.Goals as goal

pub returns-in_err-take_met-clause-sound : goal.returns-in_err-take_met-clause-sound
returns-in_err-take_met-clause-sound c = λ case lines counts found.
    c.take_met.ensures.sound case lines c.args.conds.now c.in-Some.first counts found
    (one_at _ _ _ c.args.conds.now c.in-Some.first _ c.domains.ensures.has c.domains-2.ensures.has c.in-Some.ensures c.in_default-open_from.ensures)

pub returns-in_default-open_from-clause-sound : goal.returns-in_default-open_from-clause-sound
returns-in_default-open_from-clause-sound c = λ case lines counts found.
    c.take_met.ensures.sound case lines c.args.conds.now c.in-Some.first counts found
    (one_at _ _ _ c.args.conds.now c.in-Some.first _ c.domains.ensures.has c.domains-2.ensures.has c.in-Some.ensures c.in_default-open_from.ensures)

pub returns-in_default-open_from-clause-done : goal.returns-in_default-open_from-clause-done
returns-in_default-open_from-clause-done c = λ case counts.
    one_done case _ _ c.args.conds.now c.in-Some.first _
    (one_at _ _ _ c.args.conds.now c.in-Some.first _ c.domains.ensures.has c.domains-2.ensures.has c.in-Some.ensures c.in_default-open_from.ensures)
    c.in_ok-take_met.ensures.left

pub returns-clause-sound : goal.returns-clause-sound
returns-clause-sound c = λ case lines counts found. same

pub returns-clause-done : goal.returns-clause-done
returns-clause-done c = λ case counts.
    let b = has_of c.args.trail.now.counts c.args.trail.now.entries in
    let conds = c.args.conds.now in
    two_done case b conds c.in-Some.first c.in-Some-open_from.second
    (subst (λ (x : ℕ → ℕ → Bool). IsNextOpen x conds 0 c.in-Some.first) c.domains.ensures.has c.in-Some.ensures)
    (subst (λ (x : ℕ → ℕ → Bool). IsNextOpen x conds (c.in-Some.first + 1) c.in-Some-open_from.second) c.domains-2.ensures.has c.in-Some-open_from.ensures)
