use Rattle.std.proofs.Common.{arith}
use Rattle.rf_show.specs.Case.{case_of}
use Rattle.rf_audit.proofs.Free.{free-fewer}
use Rattle.rf_audit.proofs.Settles.{settles}
use Rattle.rf_audit.proofs.Covers.{living-wider}
use Rattle.rf_log.specs.Closure.{Closure}
use Rattle.rf_audit.proofs.closing.close.Goals as goal

pub returns-in-Dead-clause-closed : goal.returns-in-Dead-clause-closed
returns-in-Dead-clause-closed c = λ path left living.
    let now = (c.rounds.invariant.left path left).under in
    c.in-Dead.ensures now.held (living-wider (case_of c.args.show.now) (Closure (case_of c.args.show.now) path) _ (λ x k all. now.covers.1 living x k (all now.covers.0)) living)

pub returns-in-Settled-clause-closed : goal.returns-in-Settled-clause-closed
returns-in-Settled-clause-closed c = λ path left.
    let now = c.rounds.invariant.left path left in
    c.settled_box_is_closed.ensures (case_of c.args.show.now) path _ c.in-Settled.ensures.0 (settles _ path _ _ now c.in-Settled.ensures.1) now.under.within

pub rounds-smaller : goal.rounds-smaller
rounds-smaller c = rw c.fix.ensures.set
    (free-fewer c.rounds.left.fixed.items c.in-Fixed.carrier c.in-Fixed.at (omega (arith, c.rounds.invariant.known.full, c.in-Fixed.ensures.known)) c.in-Fixed.ensures.was)

pub rounds-preserved : goal.rounds-preserved
rounds-preserved c = record {
  sized = c.fix.ensures.sized;
  known = c.fix.ensures.fixed;
  left = λ path left. c.fix.ensures.left path (c.rounds.invariant.left path left);
}
