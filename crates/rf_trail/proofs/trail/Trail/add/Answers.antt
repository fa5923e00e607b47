use Rattle.std.proofs.Common.{◌≡◌, List, [], ◌∷◌, ◌++◌, sym, subst, arith}
use Rattle.rf_trail.specs.declared.step.Step.{Step}
use Rattle.rf_trail.specs.Pieces.{StandsFor}
use Rattle.rf_trail.proofs.PieceLemmas.{stands_more}
use Rattle.rf_trail.proofs.trail.Trail.add.Goals as goal

pub invariant_of-self-in-Ok : goal.invariant_of-self-in-Ok
invariant_of-self-in-Ok c =
    let step : Step = record { entry = record { carrier = c.args.carrier; lo = c.args.lo; hi = c.args.hi; hint = c.args.hint }; pieces = c.len-pieces.result } in
    subst (λ (ss : List Step). StandsFor c.take_out.new.domains ss c.take_out.new.pieces.items) (sym c.in_ok-push.ensures.items)
    (stands_more c.self.inside.domains c.take_out.new.domains c.self.inside.steps.items step c.self.inside.pieces.items c.take_out.new.pieces.items
    c.self.invariant c.take_out.ensures.sizes c.take_out.ensures.pieces c.take_out.ensures.more (omega arith) c.in-Ok.ensures.ok)
