use Rattle.std.proofs.Common.{◌≡◌, ℕ, subst, arith}
use Rattle.rf_log.specs.Relations.{IsEmptied}
use Rattle.rf_trail.specs.Trace.{box_of}
use Rattle.rf_propagate.proofs.Steps.{live_more, live_box, emptied_box}
use Rattle.rf_propagate.proofs.outcome.outcome_of.Goals as goal

pub loop-carrier-init : goal.loop-carrier-init
loop-carrier-init c = record { each = λ x none. absurd (omega arith) }

pub loop-carrier-preserved : goal.loop-carrier-preserved
loop-carrier-preserved c =
    live_more c.domains-domains.result.now c.loop-carrier.carrier c.in-Some.field-0 c.loop-carrier.invariant c.in-Some.ensures.here

pub returns-in-None-clause-wiped : goal.returns-in-None-clause-wiped
returns-in-None-clause-wiped c = λ case carrier counts is.
    let same : c.loop-carrier.carrier ≡ carrier = cc in
    subst (λ (x : ℕ). IsEmptied case (box_of c.args.trail.now) x) same
    (emptied_box c.domains-domains.result.now c.args.trail.now c.loop-carrier.carrier c.domains-domains.ensures.sizes c.domains-domains.ensures.has (omega arith)
    (λ k. c.in-None.ensures.none k (omega arith)) case counts)

pub returns-clause-quiet : goal.returns-clause-quiet
returns-clause-quiet c = λ case counts same.
    live_box c.domains-domains.result.now c.args.trail.now c.loop-carrier.carrier c.domains-domains.ensures.sizes c.domains-domains.ensures.has (omega arith)
    c.loop-carrier.invariant case counts
