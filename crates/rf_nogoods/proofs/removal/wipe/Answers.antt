use Rattle.std.proofs.Common.{arith, ◌∙◌, ap, sym}
use Rattle.rf_propagate.specs.Laws.{same}
use Rattle.rf_domain.specs.Sets.{size_of}
use Rattle.rf_nogoods.proofs.RemovalLemmas.{wipe_step, wiped_all, none_there, on_ok}
use Rattle.rf_nogoods.proofs.removal.wipe.Goals as goal

pub returns-then-size-eq0-clause-sound : goal.returns-then-size-eq0-clause-sound
returns-then-size-eq0-clause-sound c = λ case lines conds counts found held. same

pub returns-then-size-eq0-clause-none : goal.returns-then-size-eq0-clause-none
returns-then-size-eq0-clause-none c =
    let size = ap (λ ns. size_of ns c.args.carrier) c.domains.ensures.sizes in
    none_there c.args.trail.now c.args.carrier (omega (arith, size, c.size-size.ensures))

pub returns-clause-sound : goal.returns-clause-sound
returns-clause-sound c = λ case lines conds counts found held.
    c.strike.ensures.sound case lines
    (let size = ap (λ ns. size_of ns c.args.carrier) c.domains.ensures.sizes in
    wipe_step case lines c.args.trail.now c.args.line conds c.args.carrier 0 _ counts found held (omega arith) (omega (arith, size, c.size-size.ensures)))

pub returns-clause-none : goal.returns-clause-none
returns-clause-none c = on_ok c.strike.result c.strike.ensures.left (λ left.
    wiped_all c.strike.new.trail _ c.args.carrier _ left
    (ap (λ ns. size_of ns c.args.carrier) c.strike.ensures.counts ∙ (ap (λ ns. size_of ns c.args.carrier) (sym c.domains.ensures.sizes) ∙ sym c.size-size.ensures)))
