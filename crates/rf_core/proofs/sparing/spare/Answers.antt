use Rattle.std.proofs.Common.{List, ℕ, length, arith, ap, sym, subst}
use Rattle.rf_decide.specs.Decisions.{no_call}
use Rattle.rf_core.specs.Blocking.{AreLocks}
use Rattle.rf_core.specs.Sparing.{IsTurn}
use Rattle.rf_core.proofs.LockLists.{locks-are}
use Rattle.rf_core.proofs.SparingLemmas.{once-more, refuted-first}
use Rattle.rf_core.proofs.sparing.spare.Goals as goal

pub locks-init : goal.locks-init
locks-init g c =
    let none = ap (λ (ps : List (List ℕ)). length ps) c.new.ensures.items in
    let all = ap (λ (xs : List ℕ). length xs) c.requires.keep in
    record {
      holds = record {
        locks = subst (λ (xs : List ℕ). AreLocks c.args.show.now 0 xs) (sym c.requires.keep) (locks-are c.args.show.now);
        few = omega (arith, none);
        without = λ i low. absurd (omega (arith, low, none));
        refutation = refuted-first c.args.show.now c.args.budget c.args.log c.args.keep.items c.requires.keep c.requires.log;
      };
      done = 0;
      calls = no_call;
      sum = omega (arith, none, all);
    }

pub returns-in_err-next-clause-calls : goal.returns-in_err-next-clause-calls
returns-in_err-next-clause-calls g c =
    let more = once-more c.locks.invariant (omega (arith, c.locks-test.true, c.len.ensures, c.len-in-locks.ensures)) c.spare_one.ensures.calls in
    (more.0, more.2, more.3)

pub locks-preserved : goal.locks-preserved
locks-preserved g c =
    let more = once-more c.locks.invariant (omega (arith, c.locks-test.true, c.len.ensures, c.len-in-locks.ensures)) c.spare_one.ensures.calls in
    let turn = subst (λ t. IsTurn c.args.show.now c.args.budget c.locks.held t) c.in-Next.is c.in_ok-next.ensures.turn in
    record { holds = turn.0; done = more.0; calls = more.3; sum = omega (arith, more.1, turn.1) }

pub returns-in-Stuck-clause-calls : goal.returns-in-Stuck-clause-calls
returns-in-Stuck-clause-calls g c =
    let more = once-more c.locks.invariant (omega (arith, c.locks-test.true, c.len.ensures, c.len-in-locks.ensures)) c.spare_one.ensures.calls in
    (more.0, more.2, more.3)
