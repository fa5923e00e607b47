use Rattle.std.proofs.Common.{true, sym, subst, Some}
use Rattle.rf_log.specs.declared.cond.Cond.{Cond}
use Rattle.rf_log.specs.declared.line.LogLine.{LogLine}
use Rattle.rf_log.specs.Walk.{left_side}
use Rattle.rf_log.specs.Solved.{IsHonestLine}
use Rattle.rf_show.specs.Case.{case_of}
use Rattle.rf_audit.specs.Follow.{Tells}
use Rattle.rf_audit.specs.Left.{HasBoth, IsClosedTo, in_sets}
use Rattle.rf_audit.proofs.Sides.{tells-honest}
use Rattle.rf_audit.proofs.follow.is_honest.Goals as goal

pub returns-else-not-close-clause-honest : goal.returns-else-not-close-clause-honest
returns-else-not-close-clause-honest c = λ path left.
    let case = case_of c.args.show.now in
    let box = in_sets c.close.new.left.sets.items in
    let side = left_side c.in-Branch.cut c.in-Branch.carrier c.in-Branch.at in
    let closed : IsClosedTo case path box true = subst (λ b. IsClosedTo case path box b) c.if-not-close.false (c.close.ensures.closed path left) in
    let both : Tells (HasBoth box side) c.has_both.result = subst (λ (one : Cond). Tells (HasBoth box one) c.has_both.result) c.side_of.ensures c.has_both.ensures in
    subst (λ (line : LogLine). Tells (IsHonestLine case (Some path) line) c.has_both.result) (sym c.in-Branch.is)
    (tells-honest case path box side c.has_both.result closed (c.close.ensures.left path left).under.covers both)
