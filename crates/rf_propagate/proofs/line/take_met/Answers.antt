use Rattle.std.proofs.Common.{◌∙◌, ℕ, Bool, ap, sym}
use Rattle.rf_domain.specs.Sets as sets
use Rattle.rf_domain.specs.Sets.{has}
use Rattle.rf_propagate.proofs.LineLaws.{met_inside, met_outside}
use Rattle.rf_propagate.proofs.line.take_met.Goals as goal

pub returns-then-cond-clause-taken : goal.returns-then-cond-clause-taken
returns-then-cond-clause-taken c =
    c.remove_range.ensures.has ∙ ap (λ (gone : ℕ → Bool). sets.without (has c.args.sets.now) c.args.cond.carrier gone) (sym (met_inside c.args.cond c.if-cond.true))

pub returns-clause-taken : goal.returns-clause-taken
returns-clause-taken c =
    c.keep_range.ensures.has ∙ ap (λ (gone : ℕ → Bool). sets.without (has c.args.sets.now) c.args.cond.carrier gone) (sym (met_outside c.args.cond c.if-cond.false))
