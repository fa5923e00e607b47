use Rattle.std.proofs.Common.{ℕ, ◌+◌, List, length, sym, subst, arith}
use Rattle.rf_props.proofs.FlagLemmas.{FreshUpTo, fresh_start, fresh_more, fresh_all}
use Rattle.rf_props.proofs.flags.fresh_of.Goals as goal

pub loop-carrier-init : goal.loop-carrier-init
loop-carrier-init c =
    subst (λ (xs : List ℕ). FreshUpTo (length c.args.problem.now.carriers) c.args.single.now c.args.known.now 0 xs) (sym c.new-fresh.ensures.items) (fresh_start _ _ _)

pub loop-carrier-preserved : goal.loop-carrier-preserved
loop-carrier-preserved c =
    subst (λ (xs : List ℕ). FreshUpTo (length c.args.problem.now.carriers) c.args.single.now c.args.known.now (c.loop-carrier.carrier + 1) xs) (sym c.in_ok-push.ensures.items)
    (fresh_more c.loop-carrier.invariant (omega arith))

pub returns : goal.returns
returns c = fresh_all c.loop-carrier.invariant (omega arith)
