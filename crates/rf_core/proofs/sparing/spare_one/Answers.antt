use Rattle.std.proofs.Common.{List, ℕ, subst, ◌∙◌, ap}
use Rattle.rf_tighter.specs.Locked.{kept}
use Rattle.rf_decide.specs.Decisions.{IsDecision}
use Rattle.rf_core.proofs.SparingLemmas.{if-ok}
use Rattle.rf_core.proofs.sparing.spare_one.Goals as goal

pub returns-clause-turn : goal.returns-clause-turn
returns-clause-turn g c =
    let shown = c.in_ok-eased.ensures ∙ ap (λ (xs : List ℕ). kept c.args.show.now xs) c.as_slice-2.ensures.value in
    if-ok c.spared.result
    (λ turn owes. owes c.args.show.now c.args.budget c.requires.held (subst (λ s. IsDecision s c.args.budget c.in_ok-decision.decision) shown c.in_ok-decision.ensures.decided))
    c.spared.ensures
