use Rattle.std.proofs.Common.{◌∙◌, ap, sym, refl, Some}
use Rattle.rf_log.specs.Box.{Box}
use Rattle.rf_log.specs.Hints.{by_open}
use Rattle.rf_domain.specs.Sets.{has}
use Rattle.rf_propagate.proofs.LineLaws.{none_open, one_open, two_open, low_of}
use Rattle.rf_propagate.proofs.OpeningLaws.{one_at}
use Rattle.rf_propagate.proofs.line.apply_line.Goals as goal

pub returns-in_default-clause-works : goal.returns-in_default-clause-works
returns-in_default-clause-works c = λ case counts yes_.
    let b = has c.args.sets.now in
    ap (by_open b) (none_open case b c.args.conds.now c.in_default.ensures) ∙ ap (λ (x : Box). Some x) (sym c.clear.ensures.none)

pub returns-in-Some-open_from-clause-fails : goal.returns-in-Some-open_from-clause-fails
returns-in-Some-open_from-clause-fails c = λ case counts no_.
    two_open case (has c.args.sets.now) c.args.conds.now c.in-Some.place c.in-Some-open_from.field-0 c.in-Some.ensures c.in-Some-open_from.ensures (low_of case c.args.sets.now counts)

pub returns-clause-works : goal.returns-clause-works
returns-clause-works c = λ case counts yes_.
    let sets = c.args.sets.now in
    let b = has sets in
    ap (by_open b) (one_open case b c.args.conds.now c.in-Some.place _
    (one_at b sets sets c.args.conds.now c.in-Some.place _ refl refl c.in-Some.ensures c.in_default-open_from.ensures) (λ k here. low_of case sets counts _ k here))
    ∙ ap (λ (x : Box). Some x) (sym c.take_met.ensures.taken)
